-- How registers are placed in a table in the order of their names.
use Rattle.std.specs.Prelude.{◌≡◌, ℕ, ◌<◌, ◌≤◌, List, [], length, slice_index_or}
use Rattle.std.specs.Cmp.Lexicographic.{slice_cmp}
use Rattle.std.specs.Ordering.{nat_cmp}
use Rattle.std.specs.declared.cmp.Ordering.TheVariants.{Less, Greater}

-- the name of the register at this place
abbrev pub name_at : List (List ℕ × ℕ) → ℕ → List ℕ
name_at table place = let register = slice_index_or table place ([], 0) in register.0

-- the names rise, so none is in it twice
abbrev pub IsInOrder : List (List ℕ × ℕ) → Type 0
IsInOrder table = (i j : ℕ) → i < j → j < length table → slice_cmp nat_cmp (name_at table i) (name_at table j) ≡ Less

-- the register with this name is at the place
pub record IsAt (table : List (List ℕ × ℕ)) (name : List ℕ) (place : ℕ) : Type 0 where
  pub within : place < length table
  pub name_is : name_at table place ≡ name

-- no register has this name, and one with it would be at the place: lesser names before it, greater ones from it on
pub record IsGap (table : List (List ℕ × ℕ)) (name : List ℕ) (place : ℕ) : Type 0 where
  pub within : place ≤ length table
  pub below : (j : ℕ) → j < place → slice_cmp nat_cmp (name_at table j) name ≡ Less
  pub above : (j : ℕ) → place ≤ j → j < length table → slice_cmp nat_cmp (name_at table j) name ≡ Greater

-- How a map stores a table: its entries hold a number or nothing.
use Rattle.std.specs.Prelude.{◌≡◌, ℕ, ◌+◌, ◌≤◌, List, length, Option, None, Some, if◌then◌else◌, filter_map}
use Rattle.std.specs.Option.{option_map}
use Rattle.std.specs.Str.{bytes_eq}
use Rattle.indexmap.specs.IndexMap.{IndexMap, index_map_len, spare, IsUnique}
use Rattle.dsr_register.specs.Table.{held_in}

-- the entry's name and number; `None` for an entry without a number
abbrev pub held_entry : List ℕ × Option ℕ → Option (List ℕ × ℕ)
held_entry entry = option_map (λ number. (entry.0, number)) entry.1

-- the registers that hold a number, among these entries
abbrev pub held_entries : List (List ℕ × Option ℕ) → List (List ℕ × ℕ)
held_entries entries = filter_map held_entry entries

-- the number of numbers that a register holds, 0 or 1
abbrev pub how_many : Option ℕ → ℕ
how_many None = 0
how_many (Some number) = 1

-- the register held `before` and now holds `after`; the others hold what they held
pub record Changes (old new : List (List ℕ × ℕ)) (name : List ℕ) (before after : Option ℕ) : Type 0 where
  pub held : held_in old name ≡ before
  pub contents : (other : List ℕ) → held_in new other ≡ (if bytes_eq name other then after else held_in old other)
  pub count : length new + how_many before ≡ length old + how_many after

-- the greatest number of entries of a table
abbrev pub most_entries : ℕ
most_entries = 2048

-- no name has two entries, and there is room for all entries of a table
pub record IsRoomy {S : Type 0} (entries : IndexMap (List ℕ) (Option ℕ) S) : Type 0 where
  pub unique : IsUnique bytes_eq entries
  pub room : most_entries ≤ index_map_len entries + spare entries

-- Texts of several items, joined by a mark (this project): `r0+r1`.
use Rattle.std.specs.Prelude.{ℕ, ◌<◌, ◌≤◌, List, [], ◌∷◌, ◌++◌, All, codes, length}

-- further items, each after a mark
abbrev pub more_joined : {X : Type 0} → ℕ → (X → List ℕ) → List X → List ℕ
more_joined mark text [] = []
more_joined mark text (x ∷ xs) = mark ∷ (text x ++ more_joined mark text xs)

-- items joined by the mark
abbrev pub joined : {X : Type 0} → ℕ → (X → List ℕ) → List X → List ℕ
joined mark text [] = []
joined mark text (x ∷ xs) = text x ++ more_joined mark text xs

-- the same, or a dash for an empty list
abbrev pub joined_or_dash : {X : Type 0} → ℕ → (X → List ℕ) → List X → List ℕ
joined_or_dash mark text [] = codes "-"
joined_or_dash mark text (x ∷ xs) = text x ++ more_joined mark text xs

-- 1 to `most` items that satisfy `is`
pub record AreFew {X : Type 0} (is : X → Type 0) (most : ℕ) (items : List X) : Type 0 where
  pub some : 0 < length items
  pub few : length items ≤ most
  pub each : All is items

-- at most `most` items that satisfy `is`
pub record AreUpTo {X : Type 0} (is : X → Type 0) (most : ℕ) (items : List X) : Type 0 where
  pub few : length items ≤ most
  pub each : All is items

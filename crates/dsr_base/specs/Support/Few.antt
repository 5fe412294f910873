-- How a list of 1 to n items is stored in an array of n places: the places after it hold its first item
-- again.
use Rattle.std.specs.Prelude.{◌≡◌, ℕ, zero, suc, ◌<◌, List, [], ◌∷◌, length, take}
use Rattle.std.proofs.Common.{ap₂, lt_irrefl}
use Rattle.dsr_base.specs.Support.Padded.{IsPadded, padded, length_items, padded_items}
use Rattle.dsr_base.specs.declared.few.Few.TheInside.{Inside}

-- there is an item, and the places after the items hold the first one again
abbrev pub IsFew : {X : Type 0} → ℕ → List X → ℕ → Type 0
IsFew n [] k = ⊥
IsFew n (x ∷ xs) k = (0 < k) × IsPadded n x (x ∷ xs) k

-- the fields with these items and this length
abbrev fields_of : {X : Type 0} (n : ℕ) → List X → ℕ → Inside X n
fields_of n items len = record { items = items; len = len }

-- the fields that hold this list
abbrev pub few_fields : {X : Type 0} (n : ℕ) → List X → Inside X n
few_fields n [] = fields_of n [] 0
few_fields n (x ∷ xs) = fields_of n (padded n x (x ∷ xs)) (length (x ∷ xs))

back : {X : Type 0} (n : ℕ) (items : List X) (k : ℕ) → IsFew n items k → few_fields n (take k items) ≡ fields_of n items k
back n [] k h = absurd h
back n (x ∷ xs) zero h = absurd (lt_irrefl 0 h.0)
back n (x ∷ xs) (suc k) h =
    ap₂ (fields_of n) (padded_items n (suc k) x (x ∷ xs) h.1) (length_items n (suc k) x (x ∷ xs) h.1)

-- the fields that hold the list in some fields are those fields
pub fields_back : {X : Type 0} (n : ℕ) (a : Inside X n) → IsFew n a.items a.len → few_fields n (take a.len a.items) ≡ a
fields_back n a h = back n a.items a.len h

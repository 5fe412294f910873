-- How a list of at most n items is stored in an optional list of 1 to n.
use Rattle.std.specs.Prelude.{◌≡◌, ℕ, refl, ◌≤◌, List, [], ◌∷◌, length, Option, None, Some}
use Rattle.dsr_base.specs.declared.up_to.UpTo.TheInside.{Inside}

-- no list, or one of 1 to n items
abbrev pub IsUpTo : {X : Type 0} → ℕ → Option (List X) → Type 0
IsUpTo n None = Unit {0}
IsUpTo n (Some []) = ⊥
IsUpTo n (Some (x ∷ xs)) = length (x ∷ xs) ≤ n

-- the items of a list; `None` represents the empty one
abbrev pub items_of : {X : Type 0} → Option (List X) → List X
items_of None = []
items_of (Some xs) = xs

abbrev fields_of : {X : Type 0} (n : ℕ) → Option (List X) → Inside X n
fields_of n list = record { list = list }

-- the fields that hold this list
abbrev pub up_to_fields : {X : Type 0} (n : ℕ) → List X → Inside X n
up_to_fields n [] = fields_of n None
up_to_fields n (x ∷ xs) = fields_of n (Some (x ∷ xs))

back : {X : Type 0} (n : ℕ) (list : Option (List X)) → IsUpTo n list → up_to_fields n (items_of list) ≡ fields_of n list
back n None h = refl
back n (Some []) h = absurd h
back n (Some (x ∷ xs)) h = refl

-- the fields that hold the list in some fields are those fields
pub fields_back : {X : Type 0} (n : ℕ) (a : Inside X n) → IsUpTo n a.list → up_to_fields n (items_of a.list) ≡ a
fields_back n a h = back n a.list h

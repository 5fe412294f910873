-- What is lent at a place of a slice.
use Rattle.std.proofs.Common.{◌≡◌, ℕ, ◌≤◌, ◌<◌, List, length, Option, None, Some, MatchOption, IfSome, refl, sym, ◌∙◌, ap, get_or}
use Rattle.std.specs.Borrow.{Bor}
use Rattle.std.specs.List.{HoldsAt}
use Rattle.std.specs.Option.{option_map}
use Rattle.std.specs.Prelude.{map, slice_get}
use Rattle.std.proofs.lemmas.Option.{slice_get-map, slice_get_past, slice_get_read}

-- what `get` lends at a place is what the list has there
pub lent_at : {A : Type 0} (xs : List A) (k : ℕ) (lent : Option (Bor A)) → IfSome lent (λ x. x.now ≡ get_or xs k x.now)
    → MatchOption lent (length xs ≤ k) (λ x. (k < length xs) × HoldsAt (λ y. x.now ≡ y) xs k)
    → option_map (λ x. x.now) lent ≡ slice_get xs k
lent_at xs k None at past = sym (slice_get_past xs k past)
lent_at xs k (Some x) at inside = sym (slice_get_read xs (length xs) k x.now refl inside.0 at)

-- the same of a part of it
pub part_at : {A B : Type 0} (part : A → B) (xs : List A) (k : ℕ) (lent : Option (Bor A)) → IfSome lent (λ x. x.now ≡ get_or xs k x.now)
    → MatchOption lent (length xs ≤ k) (λ x. (k < length xs) × HoldsAt (λ y. x.now ≡ y) xs k)
    → option_map (λ x. part x.now) lent ≡ slice_get (map part xs) k
part_at part xs k None at past = sym (slice_get-map part xs k ∙ ap (option_map part) (slice_get_past xs k past))
part_at part xs k (Some x) at inside = sym (slice_get-map part xs k ∙ ap (option_map part) (slice_get_read xs (length xs) k x.now refl inside.0 at))

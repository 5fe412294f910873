-- Lists of lists, and lists that grow at their end.
use Rattle.std.proofs.Common.{◌⊎◌, inl, inr, ◌≡◌, ℕ, zero, suc, ◌<◌, Bool, true, false, List, [], ◌∷◌, ◌++◌, length, Some, if◌then◌else◌, refl, ap₂, arith, ap}
use Rattle.std.specs.Prelude.{slice_get}
use Rattle.std.proofs.lemmas.List.{length_push}
use Rattle.std.proofs.lemmas.Option.{none-some, same_Some}
use Rattle.dsr_chain.specs.Chain.{Chain}
use Rattle.dsr_slot.specs.Broadcast.{from_each}

-- the lists of the first posters are the same if each of them is
pub each_same : (n : ℕ) (given other : ℕ → List Chain) → ((p : ℕ) → p < n → given p ≡ other p) → from_each n given ≡ from_each n other
each_same zero given other same = refl
each_same (suc n) given other same =
    ap₂ (λ xs ys. xs ++ ys) (each_same n given other (λ p inside. same p (omega (arith, inside)))) (same n (omega arith))

module _ {A : Type 0} where
  -- what is at a place is there when the list has grown
  pub get_grown : (xs ys : List A) (place : ℕ) (x : A) → slice_get xs place ≡ Some x → slice_get (xs ++ ys) place ≡ Some x
  get_grown [] ys place x e = absurd (none-some x e)
  get_grown (y ∷ xs) ys zero x e = e
  get_grown (y ∷ xs) ys (suc place) x e = get_grown xs ys place x e

  -- at a place inside, a list keeps its item if it grows
  pub get_before : (xs ys : List A) (place : ℕ) → place < length xs → slice_get (xs ++ ys) place ≡ slice_get xs place
  get_before [] ys place inside = absurd (omega arith)
  get_before (y ∷ xs) ys zero inside = refl
  get_before (y ∷ xs) ys (suc place) inside = get_before xs ys place (omega (arith, inside))

  -- the item put at the end is at the place that was the length
  pub get_last : (xs : List A) (x : A) → slice_get (xs ++ x ∷ []) (length xs) ≡ Some x
  get_last [] x = refl
  get_last (y ∷ xs) x = get_last xs x

  length_more : (xs : List A) (x : A) → length (xs ++ x ∷ []) ≡ suc (length xs)
  length_more xs x = omega (arith, length_push xs x)

  -- the length of a list that grew by an item or did not
  pub length_if : (b : Bool) (xs : List A) (x : A) → length (if b then xs ++ x ∷ [] else xs) ≡ (if b then suc (length xs) else length xs)
  length_if true xs x = length_more xs x
  length_if false xs x = refl

  -- what is at a place is there when the list has grown by an item or has not
  pub get_if : (b : Bool) (xs : List A) (y : A) (place : ℕ) (x : A) → slice_get xs place ≡ Some x
      → slice_get (if b then xs ++ y ∷ [] else xs) place ≡ Some x
  get_if true xs y place x e = get_grown xs (y ∷ []) place x e
  get_if false xs y place x e = e

  -- at a place inside, a list keeps its item whether or not it grows
  pub get_before_if : (b : Bool) (xs : List A) (y : A) (place : ℕ) → place < length xs
      → slice_get (if b then xs ++ y ∷ [] else xs) place ≡ slice_get xs place
  get_before_if true xs y place inside = get_before xs (y ∷ []) place inside
  get_before_if false xs y place inside = refl

  -- what is in a list that grew by an item was there before, or it is the new item, at the end
  pub get_more : (xs : List A) (y : A) (place : ℕ) (x : A) → slice_get (xs ++ y ∷ []) place ≡ Some x
      → (slice_get xs place ≡ Some x) ⊎ ((place ≡ length xs) × (y ≡ x))
  get_more [] y zero x e = inr (refl, same_Some y x e)
  get_more [] y (suc place) x e = absurd (none-some x e)
  get_more (z ∷ xs) y zero x e = inl e
  get_more (z ∷ xs) y (suc place) x e = elim (get_more xs y place x e) [ inl old ↦ inl old | inr new ↦ inr (ap suc new.0, new.1) ]

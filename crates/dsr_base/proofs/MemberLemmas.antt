-- What is in a list: in joined lists, at a place, and in a list all of whose items have a property.
use Rattle.std.proofs.Common.{◌≡◌, ℕ, zero, suc, List, [], ◌∷◌, ◌++◌, Some, ◌⊎◌, inl, inr, subst}
use Rattle.std.specs.Prelude.{All, slice_get}
use Rattle.std.proofs.lemmas.List.Elements.{All-head, All-tail}
use Rattle.std.proofs.lemmas.Option.{same_Some, none-some}
use Rattle.dsr_base.specs.Member.{In, here, there}

module _ {A : Type 0} where
  pub In-append_left : (x : A) (xs ys : List A) → In x xs → In x (xs ++ ys)
  In-append_left x [] ys h = elim h [ ]
  In-append_left x (y ∷ xs) ys (here e) = here e
  In-append_left x (y ∷ xs) ys (there h) = there (In-append_left x xs ys h)

  pub In-append_right : (x : A) (xs ys : List A) → In x ys → In x (xs ++ ys)
  In-append_right x [] ys h = h
  In-append_right x (y ∷ xs) ys h = there (In-append_right x xs ys h)

  pub In-append_cases : (x : A) (xs ys : List A) → In x (xs ++ ys) → In x xs ⊎ In x ys
  In-append_cases x [] ys h = inr h
  In-append_cases x (y ∷ xs) ys (here e) = inl (here e)
  In-append_cases x (y ∷ xs) ys (there h) = elim (In-append_cases x xs ys h) [ inl left ↦ inl (there left) | inr right ↦ inr right ]

  -- what is in a list with one item is that item
  pub In-one : (x y : A) → In x (y ∷ []) → y ≡ x
  In-one x y (here e) = e
  In-one x y (there later) = elim later [ ]

  -- what is in the list is at a place
  pub In-place : (x : A) (xs : List A) → In x xs → (place : ℕ) × (slice_get xs place ≡ Some x)
  In-place x [] h = elim h [ ]
  In-place x (y ∷ xs) (here e) = (0, λ i. Some (e i))
  In-place x (y ∷ xs) (there h) = let later = In-place x xs h in (suc later.0, later.1)

  -- what is at a place is in the list
  pub In-from_place : (x : A) (xs : List A) (place : ℕ) → slice_get xs place ≡ Some x → In x xs
  In-from_place x [] place e = absurd (none-some x e)
  In-from_place x (y ∷ xs) zero e = here (same_Some y x e)
  In-from_place x (y ∷ xs) (suc place) e = there (In-from_place x xs place e)

  -- what holds for all holds for each
  pub In-all : (P : A → Type 0) (x : A) (xs : List A) → All P xs → In x xs → P x
  In-all P x [] all h = elim h [ ]
  In-all P x (y ∷ xs) all (here e) = subst P e (All-head P y xs all)
  In-all P x (y ∷ xs) all (there h) = In-all P x xs (All-tail P y xs all) h

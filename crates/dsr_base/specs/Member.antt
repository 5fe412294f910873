-- Membership in a list.
use Rattle.std.specs.Prelude.{◌≡◌, List, ◌∷◌}

-- x is in the list
pub data In {A : Type 0} : A → List A → Type 0 where
  here : {x y : A} {xs : List A} → y ≡ x → In x (y ∷ xs)
  there : {x y : A} {xs : List A} → In x xs → In x (y ∷ xs)

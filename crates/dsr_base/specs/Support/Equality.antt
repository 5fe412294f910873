-- If `==` holds exactly for equal items, so it does for optional items and for lists of them.
use Rattle.std.specs.Prelude.{◌≡◌, Bool, List, Option, None, Some}
use Rattle.std.specs.Bool.{Decides}
use Rattle.std.specs.Option.{option_eq}
use Rattle.std.specs.Cmp.Lexicographic.{pointwise}
use Rattle.std.proofs.Common.{refl}
use Rattle.std.proofs.lemmas.Bool.Decides.{Decides-like}
use Rattle.std.proofs.lemmas.Slice.Eq.{slice_eq-Decides}

module _ {X : Type 0} {E : X → X → Bool} (decides : (a b : X) → Decides (E a b) (a ≡ b)) where
  -- for optional items
  pub equal_options : (a b : Option X) → Decides (option_eq E a b) (a ≡ b)
  equal_options None None = (λ e. refl, λ e. refl)
  equal_options None (Some b) = (λ e. cc, λ e. cc)
  equal_options (Some a) None = (λ e. cc, λ e. cc)
  equal_options (Some a) (Some b) = Decides-like (E a b) (λ e. cc) (λ e. cc) (decides a b)

  -- for lists
  pub equal_lists : (xs ys : List X) → Decides (pointwise E xs ys) (xs ≡ ys)
  equal_lists xs ys = slice_eq-Decides decides xs ys (pointwise E xs ys) refl

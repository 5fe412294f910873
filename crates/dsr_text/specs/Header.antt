-- Headers (this project): the first line of a play text, a serve script or a transcript. It is a title, which says the kind of
-- text and the version, a space and a shape, like `dsr-serve 1 3 1 1 r0`.
use Rattle.std.specs.Prelude.{◌≡◌, ◌⊎◌, ℕ, List, [], ◌∷◌, ◌++◌}
use Rattle.dsr_names.specs.Shape.{Shape, IsAllowed}
use Rattle.dsr_names.specs.ShapeText.{shape_text, IsSpelled}
use Rattle.dsr_names.specs.declared.refusal.Refusal.{Refusal}
use Rattle.dsr_names.specs.declared.refusal.Refusal.TheVariants.{BadShape, BadText}

-- the line with this title and this shape, and its line feed
abbrev pub header_line : List ℕ → Shape → List ℕ
header_line title shape = title ++ 32 ∷ (shape_text shape ++ 10 ∷ [])

-- the text is a header with this title and a shape that texts can write, and then the rest
pub record BeginsWithHeader (title text : List ℕ) (shape : Shape) (rest : List ℕ) : Type 0 where
  pub spelled : IsSpelled shape
  pub line : text ≡ header_line title shape ++ rest

-- the text does not begin with a header with this title, whatever the shape
abbrev pub HasNoHeader : List ℕ → List ℕ → Type 0
HasNoHeader title text = (shape : Shape) (rest : List ℕ) → BeginsWithHeader title text shape rest → ⊥

-- the text begins with a header with this title and a shape outside the limits
pub record HasBadShape (title text : List ℕ) : Type 0 where
  pub shape : Shape
  pub rest : List ℕ
  pub begins : BeginsWithHeader title text shape rest
  pub outside : ¬ IsAllowed shape

-- what a refusal says about a header: its shape is outside the limits, or the text begins with no header
abbrev pub IsHeaderRefusal : List ℕ → List ℕ → Refusal → Type 0
IsHeaderRefusal title text e = ((e ≡ BadShape) × HasBadShape title text) ⊎ ((e ≡ BadText 1) × HasNoHeader title text)

-- How texts write a shape (this project): `n f m traitors`, like `3 1 1 r0` or `3 1 1 -`.
use Rattle.std.specs.Prelude.{◌≡◌, ℕ, zero, suc, ◌^◌, ◌<◌, Bool, if◌then◌else◌, List, [], ◌∷◌, ◌++◌, codes, Result, Ok, Err}
use Rattle.std.specs.Fmt.{decimal}
use Rattle.dsr_base.specs.Joined.{joined_or_dash}
use Rattle.dsr_names.specs.Actor.{replica_text}
use Rattle.dsr_base.specs.Bits.{is_bit_set}
use Rattle.dsr_names.specs.Shape.{Shape, IsAllowed}
use Rattle.dsr_names.specs.declared.refusal.Refusal.{Refusal}
use Rattle.dsr_names.specs.declared.refusal.Refusal.TheVariants.{BadShape}

-- the numbers below n that pass the test, in ascending order
abbrev pub numbers_below : (ℕ → Bool) → ℕ → List ℕ
numbers_below test zero = []
numbers_below test (suc n) = numbers_below test n ++ (if test n then n ∷ [] else [])

-- the replicas whose bits are set, in ascending order
unfoldable pub replicas_of : ℕ → List ℕ
replicas_of bits = numbers_below (is_bit_set bits) 16

-- replicas joined by a plus, or a dash for an empty list
abbrev pub replicas_text : List ℕ → List ℕ
replicas_text = joined_or_dash 43 replica_text

-- the token of a shape
abbrev pub shape_text : Shape → List ℕ
shape_text shape =
    decimal shape.n ++ (codes " " ++ (decimal shape.f ++ (codes " " ++ (decimal shape.m ++ (codes " " ++ replicas_text (replicas_of shape.traitors))))))

-- a shape that a text can write, within the limits or not
pub record IsSpelled (shape : Shape) : Type 0 where
  pub n_is_number : shape.n < 2 ^ 40
  pub f_is_number : shape.f < 2 ^ 40
  pub m_is_number : shape.m < 2 ^ 40
  pub replicas_exist : shape.traitors < 2 ^ 16

-- what such a shape is read as: the shape itself if it is allowed, else the refusal
abbrev pub IsVerdict : Shape → Result Shape Refusal → Type 0
IsVerdict shape (Ok read) = (read ≡ shape) × IsAllowed shape
IsVerdict shape (Err e) = (e ≡ BadShape) × (¬ IsAllowed shape)

-- the bytes are the token of some shape, and this is what it is read as
pub record IsShapeReading (bytes : List ℕ) (answer : Result Shape Refusal) : Type 0 where
  pub shape : Shape
  pub spelled : IsSpelled shape
  pub text : bytes ≡ shape_text shape
  pub verdict : IsVerdict shape answer

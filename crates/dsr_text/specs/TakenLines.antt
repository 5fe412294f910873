-- What is guaranteed if the lines of a text are taken in after its header (this project).
use Rattle.std.specs.Prelude.{ℕ, List, []}
use Rattle.dsr_names.specs.Shape.{Shape}
use Rattle.dsr_names.specs.declared.refusal.Refusal.{Refusal}
use Rattle.dsr_names.specs.declared.refusal.Refusal.TheVariants.{BadText, NoMemory}
use Rattle.dsr_text.specs.Lines.{TextKind, BeginsWithLines, IsBadAfter}

-- the text after a header with this shape is lines, and `Gives` holds for them: what was taken in
-- is what they give
pub record HasTaken {Line : Type 0} (kind : TextKind Line) (shape : Shape) (Gives : List Line → Type 0) (text : List ℕ) : Type 0 where
  pub lines : List Line
  pub begins : BeginsWithLines kind text shape lines []
  pub gives : Gives lines

-- what a refusal says about the text after a header with this shape
abbrev pub IsLinesRefusal : {Line : Type 0} → TextKind Line → Shape → List ℕ → Refusal → Type 0
IsLinesRefusal kind shape text (BadText number) = IsBadAfter kind shape text number
IsLinesRefusal kind shape text NoMemory = Unit {0}
IsLinesRefusal kind shape text other = ⊥

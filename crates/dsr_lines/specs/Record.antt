-- Where recorded steps stop being a run, and why (this project).
use Rattle.std.specs.Prelude.{◌≡◌, ◌+◌, ◌++◌, ◌∷◌, ℕ, List, length}
use Rattle.dsr_names.specs.Shape.{Shape}
use Rattle.dsr_run.specs.Run.{IsRun}
use Rattle.dsr_run.specs.Step.{Step, log_of}
use Rattle.dsr_lines.specs.Line.{HoldsFault}
use Rattle.dsr_lines.specs.declared.line_fault.LineFault.{LineFault}

-- the first step that may not follow is at this line of the transcript, whose header is line 1: the steps before it are the run `before`,
-- and this is why it may not follow them
pub record IsFaultAt (shape : Shape) (recorded before : List Step) (line : ℕ) (fault : LineFault) : Type 0 where
  pub step : Step
  pub later : List Step
  pub parts : recorded ≡ later ++ step ∷ before
  pub counted : line ≡ length before + 2
  pub run : IsRun shape before
  pub why : HoldsFault shape (log_of before) step fault

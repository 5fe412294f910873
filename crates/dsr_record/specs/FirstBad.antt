-- Where recorded steps stop being a run (this project).
use Rattle.std.specs.Prelude.{◌≡◌, ◌+◌, ◌++◌, ◌∷◌, ℕ, List, length}
use Rattle.dsr_names.specs.Shape.{Shape}
use Rattle.dsr_run.specs.Run.{IsRun, IsNextStep}
use Rattle.dsr_run.specs.Step.{Step, log_of}

-- the first recorded step that may not be next is at this line of the transcript, whose header is line 1: the steps before it are a run,
-- and it does not continue that
pub record IsFirstBad (shape : Shape) (recorded : List Step) (line : ℕ) : Type 0 where
  pub before : List Step
  pub step : Step
  pub later : List Step
  pub parts : recorded ≡ later ++ step ∷ before
  pub counted : line ≡ length before + 2
  pub run : IsRun shape before
  pub stops : ¬ IsNextStep shape (log_of before) step

-- Moments of the boxes that threads share (this project).
use Rattle.std.specs.Prelude.{◌≡◌, List}
use Rattle.atomic_table.specs.Seated.{TableId}
use Rattle.dsr_base.specs.Growth.{Extends}
use Rattle.dsr_names.specs.Shape.{Shape}
use Rattle.dsr_names.specs.declared.actor.Actor.{Actor}
use Rattle.dsr_run.specs.Run.{IsRun}
use Rattle.dsr_run.specs.Step.{Step, Logs, log_of}
use Rattle.dsr_boxes.specs.Pass.{SharedBoxes}

-- a moment of some boxes: all steps taken up to it, the newest first
pub record Moment : Type 0 where
  pub id : TableId
  pub shape : Shape
  pub run : List Step

-- the moment is of these boxes
abbrev pub IsMomentOf : SharedBoxes → Moment → Type 0
IsMomentOf boxes moment = (moment.id ≡ boxes.id) × (moment.shape ≡ boxes.shape)

-- these are the logs of a run that goes on from this past
pub record AreLogsAfter (shape : Shape) (past : List Step) (logs : Logs) : Type 0 where
  pub run : List Step
  pub is : IsRun shape run
  pub grown : Extends run past
  pub each : (a : Actor) → log_of run a ≡ logs a

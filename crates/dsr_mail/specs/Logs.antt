-- The logs of all actors after a mail was closed (this project).
use Rattle.std.specs.Prelude.{◌≡◌, List, length}
use Rattle.dsr_names.specs.Places.{size}
use Rattle.dsr_names.specs.Shape.{Shape}
use Rattle.dsr_envelope.specs.declared.entry.Entry.{Entry}
use Rattle.dsr_run.specs.Step.{Logs as LogsOfAll}
use Rattle.dsr_boxes.specs.Pass.{logs_in}

-- the logs of the actors of the lowest places, one list for each: the actor of the highest place first, and the newest entry first
pub record Logs : Type 0 where
  pub shape : Shape
  pub lists : List (List Entry)

-- each actor's log, the newest entry first; empty for an actor outside the shape, or without a log among these
abbrev pub logs_of : Logs → LogsOfAll
logs_of logs = logs_in logs.shape logs.lists

-- each actor of the shape has a log here: so it is after a mail is closed, but not in the logs that `Logs::empty` returns
abbrev pub HasAllLogs : Logs → Type 0
HasAllLogs logs = length logs.lists ≡ size logs.shape

-- How the fields of `Logs` represent the logs of all actors (this project).
use Rattle.std.specs.Prelude.{List, [], Option, None, Some, reverse}
use Rattle.dsr_names.specs.Shape.{Shape}
use Rattle.dsr_envelope.specs.declared.entry.Entry.{Entry}
use Rattle.dsr_run.specs.Run.{AreLogs}
use Rattle.dsr_boxes.specs.Pass.{logs_in}
use Rattle.dsr_mail.specs.Logs.{Logs}
use Rattle.dsr_mail.specs.Played.{ArePlayed}
use Rattle.dsr_mail.specs.declared.logs.Actors.{Actors}
use Rattle.dsr_mail.specs.declared.logs.Logs.TheInside.{Inside}

-- the logs of the actors, the highest place first; an empty list in the logs that `Logs::empty` returns
abbrev pub lists_of : Option Actors → List (List Entry)
lists_of None = []
lists_of (Some actors) = reverse actors.logs.items

-- each actor has a node that plays it over its log, except in the logs that `Logs::empty` returns
abbrev pub PlayAll : Shape → Option Actors → Type 0
PlayAll shape None = Unit {0}
PlayAll shape (Some actors) = ArePlayed shape (logs_in shape (reverse actors.logs.items)) actors.nodes.items

-- the fields represent the logs of a run
pub record AreLogsFields (shape : Shape) (actors : Option Actors) : Type 0 where
  pub are : AreLogs shape (logs_in shape (lists_of actors))
  pub played : PlayAll shape actors

-- the shape and the logs
abbrev pub logs_value : Inside → Logs
logs_value l = record { shape = l.shape; lists = lists_of l.actors }

-- Why a service fails (this project).
use Rattle.std.specs.Prelude.{◌≡◌, ◌⊎◌, ℕ, ◌<◌, length}
use Rattle.dsr_names.specs.Shape.{IsActor}
use Rattle.dsr_names.specs.declared.actor.Actor.{Actor}
use Rattle.dsr_names.specs.declared.actor.Actor.TheVariants.{Client}
use Rattle.dsr_names.specs.declared.refusal.Refusal.{Refusal}
use Rattle.dsr_names.specs.declared.refusal.Refusal.TheVariants.{BadShape, BadName, BadNumber, Busy, NotDue, BoxFull, BoxEmpty, Forged, Exhausted, Stopped, Unanswered, NoMemory, BadText, NotARun, NoActor, WrongRole, ReadFailed, WriteFailed, NoThread}
use Rattle.dsr_client.specs.State.{accepted}
use Rattle.dsr_script.specs.Script.{Script, ops_of}
use Rattle.dsr_run.specs.History.{accepted_by}
use Rattle.dsr_boxes.specs.Pass.{Pass}
use Rattle.dsr_mail.specs.Logs.{Logs, logs_of}
use Rattle.dsr_rounds.specs.Ends.{HostRefusal}
use Rattle.dsr_rounds.specs.Limits.{IsAtLimit}

-- some actor's next post is past a limit, by its log
pub record HasPastLimit (logs : Logs) : Type 0 where
  pub seat : Pass
  pub shape : seat.shape ≡ logs.shape
  pub inside : IsActor logs.shape seat.actor
  pub log : logs_of logs seat.actor ≡ seat.log
  pub past : IsAtLimit seat

-- some client accepted fewer replies than it has operations in the script
pub record HasUnserved (script : Script) (logs : Logs) : Type 0 where
  pub client : ℕ
  pub inside : client < logs.shape.m
  pub fewer : length (accepted_by logs.shape (logs_of logs) client) < length (ops_of script client)

-- the cause of a service's end, by the script and the logs that resulted: some actor's next post is past a limit; the gate may refuse some actor;
-- some client accepted fewer replies than it has operations; memory ran out; a thread could not start
abbrev pub CauseOf : (Actor → Type 0) → Script → Logs → Refusal → Type 0
CauseOf may script logs Exhausted = HasPastLimit logs
CauseOf may script logs Stopped = (actor : Actor) × IsActor logs.shape actor × may actor
CauseOf may script logs Unanswered = HasUnserved script logs
CauseOf may script logs NoMemory = Unit {0}
CauseOf may script logs NoThread = Unit {0}
CauseOf may script logs BadShape = ⊥
CauseOf may script logs BadName = ⊥
CauseOf may script logs BadNumber = ⊥
CauseOf may script logs Busy = ⊥
CauseOf may script logs NotDue = ⊥
CauseOf may script logs BoxFull = ⊥
CauseOf may script logs BoxEmpty = ⊥
CauseOf may script logs Forged = ⊥
CauseOf may script logs (BadText line) = ⊥
CauseOf may script logs (NotARun line) = ⊥
CauseOf may script logs NoActor = ⊥
CauseOf may script logs WrongRole = ⊥
CauseOf may script logs ReadFailed = ⊥
CauseOf may script logs WriteFailed = ⊥

-- why a client's host is refused at a call: for a reason of any host, or because no reply came
abbrev pub ClientRefusal : (Actor → Type 0) → Pass → Refusal → Type 0
ClientRefusal may seat refusal = HostRefusal may seat refusal ⊎ (refusal ≡ Unanswered)

-- the client at this seat accepted fewer replies than it has operations in the script
pub record IsUnserved (script : Script) (seat : Pass) : Type 0 where
  pub client : ℕ
  pub is : seat.actor ≡ Client client
  pub fewer : length (accepted seat.shape seat.log) < length (ops_of script client)

-- why the host of a seat is refused: for a reason of any host; or, at a client's seat, because no reply came, so that the client lacks replies; or
-- because no thread could start for it
abbrev pub SeatRefusal : (Actor → Type 0) → Script → Pass → Refusal → Type 0
SeatRefusal may script seat refusal = HostRefusal may seat refusal ⊎ (((refusal ≡ Unanswered) × IsUnserved script seat) ⊎ (refusal ≡ NoThread))

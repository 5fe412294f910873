-- Requests of two clients in the order in which one client handed a moment to the other (this project).
use Rattle.std.specs.Prelude.{◌≡◌, ◌<◌, List, []}
use Rattle.dsr_base.specs.Member.{In}
use Rattle.dsr_names.specs.declared.actor.Actor.TheVariants.{Client}
use Rattle.dsr_request.specs.Request.{Request}
use Rattle.dsr_ledger.specs.declared.reply.Reply.{Reply}
use Rattle.dsr_run.specs.Linearizable.{HasResponse}
use Rattle.dsr_run.specs.Step.{log_of}
use Rattle.dsr_boxes.specs.Moment.{Moment}
use Rattle.dsr_boxes.specs.Pass.{Pass}
use Rattle.dsr_mail.specs.Logs.{Logs, logs_of}

-- each request of client 0 that has a response has a lower place in the history than each request of client 1 that has one
abbrev pub IsInOrder : Logs → Type 0
IsInOrder logs = (first second : Request) (reply later : Reply) → first.client ≡ 0 → second.client ≡ 1
    → HasResponse logs.shape (logs_of logs) first reply → HasResponse logs.shape (logs_of logs) second later → reply.place < later.place

-- at this moment client 0 has the log that it has in its seat, which is one of these, and client 1 has done nothing
pub record IsBetween (clients : List Pass) (moment : Moment) : Type 0 where
  pub seat : Pass
  pub inside : In seat clients
  pub actor : seat.actor ≡ Client 0
  pub done : log_of moment.run (Client 0) ≡ seat.log
  pub none : log_of moment.run (Client 1) ≡ []

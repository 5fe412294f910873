-- What is reported about a run (this project).
use Rattle.std.specs.Prelude.{◌≡◌, ◌++◌, ℕ, zero, suc, List, [], length, map, reverse}
use Rattle.dsr_names.specs.Shape.{Shape}
use Rattle.dsr_ledger.specs.declared.reply.Reply.{Reply}
use Rattle.dsr_request.specs.Request.{Request}
use Rattle.dsr_run.specs.History.{accepted_by, history}
use Rattle.dsr_run.specs.Step.{Step, Logs, log_of}

-- a verdict as contracts see it
pub record Verdict : Type 0 where
  pub entries : ℕ
  pub history : List Request
  pub accepted : List (ℕ × Reply)

-- the replies that the clients below this number accepted: client by client, and for each in the order of acceptance
abbrev pub accepted_of : Shape → Logs → ℕ → List (ℕ × Reply)
accepted_of shape logs zero = []
accepted_of shape logs (suc client) =
    accepted_of shape logs client ++ map (λ reply. (client, reply)) (reverse (accepted_by shape logs client))

-- the verdict on a run: how many entries it has, its history, oldest first, and the replies that its clients accepted
pub record IsVerdict (shape : Shape) (run : List Step) (verdict : Verdict) : Type 0 where
  pub entries : verdict.entries ≡ length run
  pub history : verdict.history ≡ reverse (history shape (log_of run))
  pub accepted : verdict.accepted ≡ accepted_of shape (log_of run) shape.m

use Rattle.std.proofs.Common.{◌≡◌}
use Rattle.dsr_mail.specs.Logs.{logs_of}
use Rattle.dsr_run.proofs.Lemmas.{IsBest}
use Rattle.dsr_mail.proofs.logs.Logs.history.Given as goal

-- what the loyal one of the replicas before this one with the most closed slots has
abbrev pub invariant-loop-number : goal.invariant-loop-number
invariant-loop-number l = IsBest l.self.shape (logs_of l.self) l.number l.closed l.history × (l.number-end ≡ l.self.shape.n)

use Rattle.std.proofs.Common.{◌≡◌, List}
use Rattle.dsr_run.specs.Step.{Step, log_of}
use Rattle.dsr_check.specs.Support.Audit.{StandsFor}
use Rattle.dsr_check.specs.Verdict.{accepted_of}
use Rattle.dsr_check.proofs.audit.Audit.accepted.Given as goal

-- what the clients before this one accepted
abbrev pub invariant-loop-number : goal.invariant-loop-number
invariant-loop-number l = ((run : List Step) → StandsFor l.self run → l.list.items ≡ accepted_of l.self.shape (log_of run) l.number)
    × (l.number-end ≡ l.self.shape.m)

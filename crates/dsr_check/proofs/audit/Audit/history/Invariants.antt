use Rattle.std.proofs.Common.{◌≡◌, List}
use Rattle.dsr_run.specs.Step.{Step, log_of}
use Rattle.dsr_run.proofs.Lemmas.{IsBest}
use Rattle.dsr_check.specs.Support.Audit.{StandsFor}
use Rattle.dsr_check.proofs.audit.Audit.history.Given as goal

-- what the loyal one of the replicas before this one with the most closed slots has
abbrev pub invariant-loop-number : goal.invariant-loop-number
invariant-loop-number l = ((run : List Step) → StandsFor l.self run → IsBest l.self.shape (log_of run) l.number l.closed l.history)
    × (l.number-end ≡ l.self.shape.n)

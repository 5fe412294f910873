use Rattle.std.proofs.Common.{◌≡◌}
use Rattle.dsr_run.specs.Step.{log_of}
use Rattle.dsr_run.proofs.Lemmas.{IsBest}
use Rattle.dsr_world.proofs.stage.Stage.history.Given as goal

-- what the loyal one of the replicas before this one with the most closed slots has
abbrev pub invariant-loop-number : goal.invariant-loop-number
invariant-loop-number l = IsBest l.self.shape (log_of l.self.run) l.number l.closed l.history × (l.number-end ≡ l.self.shape.n)

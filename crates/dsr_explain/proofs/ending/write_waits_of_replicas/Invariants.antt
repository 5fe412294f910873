use Rattle.std.proofs.Common.{◌≡◌, ◌++◌, ℕ, List}
use Rattle.dsr_run.specs.Step.{log_of}
use Rattle.dsr_explain.specs.Waits.{AreBelow, IsWaitOfReplica}
use Rattle.dsr_explain.proofs.ending.write_waits_of_replicas.Given as goal

-- the text has the lines of those below this number
abbrev pub invariant-loop-number : goal.invariant-loop-number
invariant-loop-number l =
    (waits : List ℕ) × AreBelow (IsWaitOfReplica l.wanted l.stage.shape (log_of l.stage.run)) l.number waits
    × (l.out ≡ l.initial.out ++ waits)

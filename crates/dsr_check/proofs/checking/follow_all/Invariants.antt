use Rattle.std.proofs.Common.{◌≡◌, ◌+◌, reverse}
use Rattle.std.specs.Prelude.{take}
use Rattle.dsr_check.specs.Support.Audit.{StandsFor}
use Rattle.dsr_check.proofs.checking.follow_all.Given as goal

-- the steps so far are followed, and their lines are counted
abbrev pub invariant-loop-step : goal.invariant-loop-step
invariant-loop-step l = StandsFor l.audit (reverse (take l.step-index l.steps)) × (l.line ≡ l.step-index + 1)
    × (l.audit.shape ≡ l.initial.audit.shape)

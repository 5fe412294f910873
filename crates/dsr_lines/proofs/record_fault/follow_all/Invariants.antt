use Rattle.std.proofs.Common.{◌≡◌, ◌+◌, reverse}
use Rattle.std.specs.Prelude.{take}
use Rattle.dsr_lines.proofs.record_fault.follow_all.Given as goal

-- the stage has gone on by the steps so far, and their lines are counted
abbrev pub invariant-loop-step : goal.invariant-loop-step
invariant-loop-step l = (l.stage.run ≡ reverse (take l.step-index l.step-items)) × (l.line ≡ l.step-index + 1) × (l.stage.shape ≡ l.recorded.shape)

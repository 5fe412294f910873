use Rattle.std.proofs.Common.{◌≡◌}
use Rattle.dsr_record.specs.Support.Merging.{Stands, left_of}
use Rattle.dsr_record.proofs.merging.Merging.run.Given as goal

-- the same logs are still merged
abbrev pub invariant-loop-actor : goal.invariant-loop-actor
invariant-loop-actor l = Stands l.self × (l.self.logs.now ≡ l.fn.self.logs.now)

abbrev pub decreases-loop-actor : goal.decreases-loop-actor
decreases-loop-actor l = left_of l.self

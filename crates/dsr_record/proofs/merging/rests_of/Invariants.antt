use Rattle.std.proofs.Common.{◌≡◌}
use Rattle.dsr_names.specs.Places.{size}
use Rattle.dsr_mail.specs.Logs.{logs_of}
use Rattle.dsr_record.specs.Support.Merging.{AreRestsBelow}
use Rattle.dsr_record.proofs.merging.rests_of.Given as goal

-- there are rests for the actors at the lower places
abbrev pub invariant-loop-place : goal.invariant-loop-place
invariant-loop-place l =
    AreRestsBelow l.logs.shape l.place (logs_of l.logs) l.rests.items × (l.place-end ≡ size l.logs.shape) × (l.shape ≡ l.logs.shape)

use Rattle.std.proofs.Common.{length}
use Rattle.dsr_replica.proofs.held.Asks.+has_each.Given as goal

abbrev pub decreases-has_each : goal.decreases-has_each
decreases-has_each l = length l.clients.now

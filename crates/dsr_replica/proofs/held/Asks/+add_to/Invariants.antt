use Rattle.std.proofs.Common.{length}
use Rattle.dsr_replica.proofs.held.Asks.+add_to.Given as goal

abbrev pub decreases-add_to : goal.decreases-add_to
decreases-add_to l = length l.clients.now

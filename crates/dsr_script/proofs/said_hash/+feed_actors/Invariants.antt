use Rattle.std.proofs.Common.{length}
use Rattle.dsr_script.proofs.said_hash.+feed_actors.Given as goal

abbrev pub decreases-feed_actors : goal.decreases-feed_actors
decreases-feed_actors g l = length l.actors.now

use Rattle.std.proofs.Common.{length}
use Rattle.dsr_script.proofs.said_hash.+feed_requests.Given as goal

abbrev pub decreases-feed_requests : goal.decreases-feed_requests
decreases-feed_requests g l = length l.requests.now

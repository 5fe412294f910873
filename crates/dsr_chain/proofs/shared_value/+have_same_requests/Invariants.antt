use Rattle.std.proofs.Common.{length}
use Rattle.dsr_chain.proofs.shared_value.+have_same_requests.Given as goal

abbrev pub decreases-have_same_requests : goal.decreases-have_same_requests
decreases-have_same_requests l = length l.ours.now

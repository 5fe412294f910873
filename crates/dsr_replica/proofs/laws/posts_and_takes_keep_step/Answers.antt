use Rattle.dsr_replica.proofs.Counting.{counts}
use Rattle.dsr_replica.proofs.laws.posts_and_takes_keep_step.Goals as goal

pub returns : goal.returns
returns c shape me log some loyal = counts shape me some log loyal

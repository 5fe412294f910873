use Rattle.dsr_replica.proofs.Possible.{plain_possible}
use Rattle.dsr_replica.proofs.laws.due_posts_can_be_made.Goals as goal

pub returns : goal.returns
returns c shape me log some loyal q is = plain_possible shape me log some loyal q is

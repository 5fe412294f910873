use Rattle.dsr_replica.proofs.Later.{post_of_round, part_of_round}
use Rattle.dsr_replica.proofs.Posting.{equal_posts}
use Rattle.dsr_replica.proofs.laws.posts_follow_the_log.Goals as goal

pub returns-clause-equal : goal.returns-clause-equal
returns-clause-equal c shape me log some loyal q inside round envelope = equal_posts shape me some log loyal q inside round envelope

pub returns-clause-lawful : goal.returns-clause-lawful
returns-clause-lawful c shape me log some loyal q inside round envelope = post_of_round shape me some log loyal q inside round envelope

pub returns-clause-chains : goal.returns-clause-chains
returns-clause-chains c shape me log some replica loyal q inside round envelope e chain =
    part_of_round shape me some replica log loyal q inside round envelope e chain

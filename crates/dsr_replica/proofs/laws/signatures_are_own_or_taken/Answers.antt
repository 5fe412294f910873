use Rattle.dsr_replica.proofs.Later.{post_source}
use Rattle.dsr_replica.proofs.laws.signatures_are_own_or_taken.Goals as goal

pub returns : goal.returns
returns c shape me log some loyal to envelope next s = post_source shape me some log loyal to envelope next s

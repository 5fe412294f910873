use Rattle.dsr_replica.proofs.LastReplies.{acted_replied, last_replied, none_replied}
use Rattle.dsr_replica.proofs.laws.last_requests_are_replied.Goals as goal

pub returns-clause-some : goal.returns-clause-some
returns-clause-some c shape log request inside = acted_replied shape log request inside

pub returns-clause-last : goal.returns-clause-last
returns-clause-last c shape log place request answer stands none = last_replied shape log place request answer stands none

pub returns-clause-none : goal.returns-clause-none
returns-clause-none c shape log client none = none_replied shape log client none

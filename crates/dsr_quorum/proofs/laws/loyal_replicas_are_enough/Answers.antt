use Rattle.dsr_quorum.proofs.Voting.{loyal_enough, loyal_win}
use Rattle.dsr_quorum.proofs.laws.loyal_replicas_are_enough.Goals as goal

pub returns-clause-votes : goal.returns-clause-votes
returns-clause-votes c shape notes reply few most same = loyal_enough shape notes reply few most same

pub returns-clause-winner : goal.returns-clause-winner
returns-clause-winner c shape notes reply few most same = loyal_win shape notes reply few most same

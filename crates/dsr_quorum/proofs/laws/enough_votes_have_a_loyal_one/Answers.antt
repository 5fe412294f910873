use Rattle.dsr_quorum.proofs.Voting.{some_voter, loyal_voter, winner_votes, none_enough}
use Rattle.dsr_quorum.proofs.laws.enough_votes_have_a_loyal_one.Goals as goal

pub returns-clause-one : goal.returns-clause-one
returns-clause-one c shape gave few enough = some_voter shape gave few enough

pub returns-clause-loyal : goal.returns-clause-loyal
returns-clause-loyal c shape notes reply few enough = loyal_voter shape notes reply few enough

pub returns-clause-winner : goal.returns-clause-winner
returns-clause-winner c f n notes reply won = winner_votes f n notes reply won

pub returns-clause-none : goal.returns-clause-none
returns-clause-none c f n notes reply none = none_enough f n notes reply none

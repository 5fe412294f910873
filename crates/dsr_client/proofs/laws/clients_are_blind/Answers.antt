use Rattle.dsr_client.proofs.Blindness.{state_blind, seen_blind, ask_blind, conduct_blind}
use Rattle.dsr_client.proofs.laws.clients_are_blind.Goals as goal

pub returns-clause-accepted : goal.returns-clause-accepted
returns-clause-accepted c shape other agree log = state_blind shape other agree log

pub returns-clause-seen : goal.returns-clause-seen
returns-clause-seen c shape other agree log = seen_blind shape other agree log

pub returns-clause-asked : goal.returns-clause-asked
returns-clause-asked c shape other agree me log pick = ask_blind shape other agree me log pick

pub returns-clause-conduct : goal.returns-clause-conduct
returns-clause-conduct c shape other agree me log = conduct_blind shape other agree me log

use Rattle.dsr_client.proofs.Accepting.{was_accepted, loyal_gave}
use Rattle.dsr_client.proofs.Answering.{accepted_grow}
use Rattle.dsr_client.proofs.Dropping.{early, again}
use Rattle.dsr_client.proofs.laws.accepted_replies_have_enough_votes.Goals as goal

pub returns-clause-votes : goal.returns-clause-votes
returns-clause-votes c shape log reply inside = was_accepted shape log reply inside

pub returns-clause-loyal : goal.returns-clause-loyal
returns-clause-loyal c shape log reply few inside = loyal_gave shape log reply few inside

pub returns-clause-stay : goal.returns-clause-stay
returns-clause-stay c shape entry log = accepted_grow shape entry log

pub returns-clause-early : goal.returns-clause-early
returns-clause-early c shape log p reply other = early shape log p reply other

pub returns-clause-again : goal.returns-clause-again
returns-clause-again c shape log p reply first had = again shape log p reply first had

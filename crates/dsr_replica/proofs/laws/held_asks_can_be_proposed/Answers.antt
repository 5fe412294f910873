use Rattle.dsr_replica.proofs.Proposing.{held_offered, others_offer_none, each_held, held_each, held_in_order}
use Rattle.dsr_replica.proofs.laws.held_asks_can_be_proposed.Goals as goal

pub returns-clause-sender : goal.returns-clause-sender
returns-clause-sender c shape me log clients asks next sends are = held_offered shape me log clients asks next sends are

pub returns-clause-others : goal.returns-clause-others
returns-clause-others c shape me log clients other = others_offer_none shape me log clients other

pub returns-clause-held : goal.returns-clause-held
returns-clause-held c shape log clients = (held_each shape log clients, each_held shape log clients)

pub returns-clause-order : goal.returns-clause-order
returns-clause-order c shape log clients asks are = held_in_order shape log clients asks are

use Rattle.dsr_node.proofs.Blindness.{post_blind, exhausted_blind, undue_blind}
use Rattle.dsr_node.proofs.laws.choices_are_blind.Goals as goal

pub returns : goal.returns
returns c = record { posts = post_blind; exhausted = exhausted_blind; undue = undue_blind }

use Rattle.dsr_names.specs.Support.ActorEquality.{actor_eq-Decides}
use Rattle.dsr_chain.proofs.ProperDecides.{is_proper-Decides, asked-Decides, same_content-Decides, is_signer-Decides}
use Rattle.dsr_chain.proofs.laws.tests_decide_the_facts.Goals as goal

pub returns-clause-proper : goal.returns-clause-proper
returns-clause-proper c shape slot round chain = is_proper-Decides shape slot round chain

pub returns-clause-content : goal.returns-clause-content
returns-clause-content c a b = same_content-Decides a b

pub returns-clause-signer : goal.returns-clause-signer
returns-clause-signer c actor chain = is_signer-Decides actor chain

pub returns-clause-asked : goal.returns-clause-asked
returns-clause-asked c shape s = asked-Decides shape s

pub returns-clause-actor : goal.returns-clause-actor
returns-clause-actor c a b = actor_eq-Decides a b

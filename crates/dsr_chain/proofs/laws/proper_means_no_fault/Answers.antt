use Rattle.dsr_chain.proofs.FaultLemmas.{without_fault, proper_from_none}
use Rattle.dsr_chain.proofs.laws.proper_means_no_fault.Goals as goal

pub returns : goal.returns
returns c shape slot round chain = (without_fault shape slot round chain, proper_from_none shape slot round chain)

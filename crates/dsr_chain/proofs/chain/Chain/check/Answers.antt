use Rattle.std.proofs.Common.{refl}
use Rattle.dsr_chain.proofs.FaultLemmas.{proper_from_none}
use Rattle.dsr_chain.proofs.chain.Chain.check.Goals as goal

pub returns-in-None-clause-proper : goal.returns-in-None-clause-proper
returns-in-None-clause-proper c =
    (λ _. proper_from_none c.args.shape.now c.args.slot c.args.round c.args.self.now c.in-None.ensures.none, λ _. refl)

use Rattle.std.proofs.Common.{sym, subst}
use Rattle.dsr_script.specs.Support.Carried.{IsHeldChain}
use Rattle.dsr_script.proofs.building.chains_of.Goals as goal

pub chain_of-requires : goal.chain_of-requires
chain_of-requires c =
    subst (IsHeldChain c.args.keys.now c.args.known.now.signatures) (sym c.chain-item.is)
    (c.requires c.loop-chain.chain-index c.chain-item.result c.loop-chain-test.true)

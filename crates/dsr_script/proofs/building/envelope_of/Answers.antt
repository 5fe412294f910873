use Rattle.std.proofs.Common.{sym, subst}
use Rattle.std.specs.Prelude.{All}
use Rattle.dsr_script.specs.Support.Carried.{IsHeldChain, IsHeldEnvelope}
use Rattle.dsr_script.specs.Support.Described.{described}
use Rattle.dsr_script.proofs.building.envelope_of.Goals as goal

pub chains_of-requires : goal.chains_of-requires
chains_of-requires c =
    subst (All (IsHeldChain c.args.keys.now c.args.known.now.signatures)) (sym c.as_slice.ensures)
    (subst (λ plan. IsHeldEnvelope c.args.keys.now c.args.known.now.signatures (described plan)) c.in-Round.is c.requires)

use Rattle.std.proofs.Common.{◌↔◌, sym, subst}
use Rattle.std.specs.Prelude.{All, IsTrue}
use Rattle.dsr_script.specs.Support.Carried.{IsHeldChain, IsHeldEnvelope}
use Rattle.dsr_script.specs.Support.Described.{described}
use Rattle.dsr_script.proofs.building.is_unforged.Goals as goal

pub returns-in-Round : goal.returns-in-Round
returns-in-Round c =
    subst (λ plan. IsTrue c.are_chains_held.result ↔ IsHeldEnvelope c.args.keys.now c.args.known.now.signatures (described plan)) (sym c.in-Round.is)
    (subst (λ chains. IsTrue c.are_chains_held.result ↔ All (IsHeldChain c.args.keys.now c.args.known.now.signatures) chains) c.as_slice.ensures
    c.are_chains_held.ensures)

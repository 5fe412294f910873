use Rattle.std.proofs.Common.{◌≡◌, arith, true, refl, sym, subst}
use Rattle.dsr_script.specs.Support.Carried.{IsHeldChain}
use Rattle.dsr_script.proofs.HeldLemmas.{all_more, all_whole}
use Rattle.dsr_script.proofs.building.are_chains_held.Goals as goal

pub returns-then-not-is_chain_held : goal.returns-then-not-is_chain_held
returns-then-not-is_chain_held c =
    let P = IsHeldChain c.args.keys.now c.args.known.now.signatures in (
      λ h. absurd cc,
      λ all.
          let yes : c.is_chain_held.result ≡ true =
          c.is_chain_held.ensures.1 (subst P (sym c.chain-item.is) (all c.loop-chain.chain-index c.chain-item.result c.loop-chain-test.true)) in
          let no = c.if-not-is_chain_held.true in
          absurd cc,
    )

pub loop-chain-preserved : goal.loop-chain-preserved
loop-chain-preserved c =
    let P = IsHeldChain c.args.keys.now c.args.known.now.signatures in
    all_more P c.args.chains.now c.loop-chain.chain-index c.chain-item.result c.loop-chain-test.true c.chain-item.is c.loop-chain.invariant
    (c.is_chain_held.ensures.0 c.if-not-is_chain_held.false)

pub returns : goal.returns
returns c =
    let P = IsHeldChain c.args.keys.now c.args.known.now.signatures in
    let all = all_whole P c.args.chains.now c.loop-chain.chain-index (omega (arith, c.loop-chain-test.false)) c.loop-chain.invariant in
    (λ h. all, λ h. refl)

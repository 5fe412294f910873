use Rattle.std.proofs.Common.{◌≡◌, arith, true, refl, sym, subst}
use Rattle.dsr_script.specs.Support.Carried.{IsByHolder}
use Rattle.dsr_script.proofs.HeldLemmas.{all_more, all_whole}
use Rattle.dsr_script.proofs.building.are_signers_held.Goals as goal

pub returns-then-not-is_signer_held : goal.returns-then-not-is_signer_held
returns-then-not-is_signer_held c =
    let P = IsByHolder c.args.keys.now in (
      λ h. absurd cc,
      λ all.
          let yes : c.is_signer_held.result ≡ true =
          c.is_signer_held.ensures.1 (subst P (sym c.link-item.is) (all c.loop-link.link-index c.link-item.result c.loop-link-test.true)) in
          let no = c.if-not-is_signer_held.true in
          absurd cc,
    )

pub loop-link-preserved : goal.loop-link-preserved
loop-link-preserved c =
    let P = IsByHolder c.args.keys.now in
    all_more P c.args.links.now c.loop-link.link-index c.link-item.result c.loop-link-test.true c.link-item.is c.loop-link.invariant
    (c.is_signer_held.ensures.0 c.if-not-is_signer_held.false)

pub returns : goal.returns
returns c =
    let P = IsByHolder c.args.keys.now in
    let all = all_whole P c.args.links.now c.loop-link.link-index (omega (arith, c.loop-link-test.false)) c.loop-link.invariant in
    (λ h. all, λ h. refl)

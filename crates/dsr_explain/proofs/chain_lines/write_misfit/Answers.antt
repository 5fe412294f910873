use Rattle.std.proofs.Common.{◌≢◌, ◌++◌, ◌∷◌, [], ◌∙◌, ap, sym}
use Rattle.std.proofs.lemmas.Bool.{both_ways}
use Rattle.dsr_explain.specs.Lines.{misfit_told}
use Rattle.dsr_explain.proofs.MisfitLemmas.{fits_at, misfit_at, signers_more}
use Rattle.dsr_explain.proofs.chain_lines.write_misfit.Goals as goal

pub returns-then-not-same : goal.returns-then-not-same
returns-then-not-same c =
    let inv = c.loop-place.invariant in
    let chain = c.args.chain.now in
    let s = c.signature-signature.result in
    let link = c.link_after-link.result in
    let apart : s.statement ≢ link = λ e. both_ways c.same.result c.if-not-same.true (c.same.ensures.1 (c.statement.ensures ∙ e)) in
    let whole =
    misfit_at chain.slot chain.value c.loop-place.before chain.signatures c.loop-place.place s link _ inv.0 c.signature-signature.ensures
    c.link_after-link.ensures apart inv.1 in
    let text = ap (λ o. o ++ misfit_told s link) inv.2 ∙ ap (λ t. c.args.out.now ++ t) (sym whole) in
    c.tell_misfit.ensures ∙ text

pub loop-place-preserved : goal.loop-place-preserved
loop-place-preserved c =
    let inv = c.loop-place.invariant in
    let chain = c.args.chain.now in
    let place = c.loop-place.place in
    let before = c.loop-place.before in
    let s = c.signature-signature.result in
    let same = sym c.statement.ensures ∙ c.same.ensures.0 c.if-not-same.false in (
      c.push.ensures ∙ (ap (λ a. before ++ a ∷ []) c.signer.ensures ∙ signers_more before chain.signatures place s inv.0 c.signature-signature.ensures),
      fits_at chain.slot chain.value before chain.signatures place s c.link_after-link.result _ inv.0 c.signature-signature.ensures c.link_after-link.ensures same
          inv.1,
      inv.2,
    )

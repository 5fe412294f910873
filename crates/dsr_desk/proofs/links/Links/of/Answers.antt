use Rattle.std.proofs.Common.{◌++◌, ◌∷◌, [], ap, ◌∙◌, arith}
use Rattle.std.proofs.lemmas.Grind.{common_steps}
use Rattle.dsr_desk.proofs.LinksLemmas.{links_more}
use Rattle.dsr_desk.proofs.links.Links.of.Goals as goal

pub loop-signature-preserved : goal.loop-signature-preserved
loop-signature-preserved c = record {
  signers = grind (arith, common_steps);
  are =
      links_more c.args.slot c.args.content.now c.args.signatures.now c.loop-signature.before c.push.new.self c.loop-signature.signature-index
      c.signature-item.result (c.push.ensures ∙ ap (λ a. c.loop-signature.before ++ a ∷ []) c.signer.ensures) c.signature-item.is c.loop-signature-test.true
      (c.is_on_link.ensures.0 c.if-not-is_on_link.false) c.loop-signature.invariant.are;
}

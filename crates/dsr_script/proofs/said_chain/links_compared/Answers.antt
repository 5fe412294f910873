use Rattle.std.proofs.Common.{ap, ◌∙◌, ◌++◌, ◌∷◌, [], arith, length}
use Rattle.std.proofs.lemmas.List.{length_push}
use Rattle.dsr_script.proofs.Places.{said_more}
use Rattle.dsr_script.specs.ChainText.{spelled_links}
use Rattle.dsr_script.specs.SignatureText.{spelled_at}
use Rattle.dsr_script.specs.Support.Said.{said_of}
use Rattle.dsr_desk.specs.declared.statement.Statement.TheVariants.{Link}
use Rattle.dsr_script.proofs.said_chain.links_compared.Goals as goal

pub loop-place-preserved : goal.loop-place-preserved
loop-place-preserved c =
    let link = c.link_at-fitting.ensures ∙ ap (λ n. Link n c.content-content.result c.loop-place.before) c.slot.ensures in
    record {
      said =
          said_more c.loop-place.links.items c.push.new.self.items (spelled_links c.args.chain.now.slot c.content-content.result [] c.args.chain.now.signatures)
          c.in_ok-at.field-0 c.args.chain.now.slot c.content-content.result c.loop-place.before c.push-in-loop-place.new.self c.args.chain.now.signatures
          c.loop-place.place c.signature-signature.result c.signature-signature.ensures c.in_ok-push.ensures.items
          (c.in_ok-at.ensures.same
          ∙ (ap (λ l. spelled_at l (said_of c.of.result)) link ∙ ap (spelled_at (Link c.args.chain.now.slot c.content-content.result c.loop-place.before)) c.of.ensures))
          (c.push-in-loop-place.ensures ∙ ap (λ a. c.loop-place.before ++ a ∷ []) c.signer.ensures) c.loop-place.invariant.said;
      signers =
          ap length c.push-in-loop-place.ensures
          ∙ (length_push c.loop-place.before c.signer.result ∙ omega (arith, c.loop-place.invariant.signers));
    }

use Rattle.std.proofs.Common.{[], ap, sym, ◌∙◌, refl, length, ◌<◌, arith}
use Rattle.std.specs.Prelude.{slice_get}
use Rattle.std.proofs.lemmas.Option.{slice_get_read}
use Rattle.dsr_desk.specs.Links.{signatures_of, signed_after}
use Rattle.dsr_desk.proofs.LinksLemmas.{made_at}
use Rattle.dsr_desk.proofs.links.Links.signature.Goals as goal

pub returns : goal.returns
returns c =
    let signers = c.as_slice-signers.result.now in
    let place = c.args.place in
    let inside : place < length signers = omega (arith, c.requires, ap length c.as_slice-signers.ensures.same, ap (λ l. length l.signers) c.self.view_is) in
    ap (λ links. slice_get (signatures_of links) place) (sym c.self.view_is)
    ∙ (ap (λ xs. slice_get (signed_after c.self.inside.slot c.self.inside.content [] xs) place) (sym c.as_slice-signers.ensures.same)
    ∙ made_at c.self.inside.slot c.self.inside.content c.content.result signers c.loop-signer.before c.loop-signer.signer-index place
    c.index-signers-place.result c.by.result c.loop-signer.invariant c.loop-signer-test.false
    (slice_get_read signers (length signers) place c.index-signers-place.result refl inside c.index-signers-place.is) c.content.ensures c.by.ensures)

use Rattle.std.proofs.Common.{◌≡◌, ◌∙◌, ap, sym}
use Rattle.dsr_chain.specs.Support.SignedLists.{content_of}
use Rattle.dsr_script.proofs.PlainLemmas.{plain_chain}
use Rattle.dsr_script.proofs.plain.is_plain_chain.Goals as goal

pub returns : goal.returns
returns c =
    let asks : c.asks.result.now ≡ c.asks-2.result.now = c.asks.ensures.same ∙ sym c.asks-2.ensures.same in
    let parts =
    plain_chain c.args.chain.now c.asks-2.result.now c.links.result.now c.content_of-content.result
    (c.content_of-content.ensures ∙ ap content_of asks) c.asks-2.ensures.same c.asks-2.ensures.value c.links.ensures.kept in
    (λ h. parts.0 (c.are_plain_parts.ensures.0 h), λ h. c.are_plain_parts.ensures.1 (parts.1 h))

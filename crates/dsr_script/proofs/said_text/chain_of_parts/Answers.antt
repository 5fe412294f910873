use Rattle.std.proofs.Common.{sym, ◌∙◌}
use Rattle.std.proofs.lemmas.Bool.{false≢true}
use Rattle.dsr_script.proofs.KeptLemmas.{chain_made, chain_unmade}
use Rattle.dsr_script.proofs.said_text.chain_of_parts.Goals as goal

pub returns-then-are_links-clause-made : goal.returns-then-are_links-clause-made
returns-then-are_links-clause-made c =
    rw (c.in-Some-Some-Some.is-0, c.in-Some-Some-Some.is-1, c.in-Some-Some-Some.is-2)
    (chain_made c.in-Some-Some-Some.slot c.in-Some-Some-Some.asks.items c.in-Some-Some-Some.links.items
    (rw (c.as_slice.ensures.value, c.as_slice-in-Some-Some-Some.ensures.value) at c.are_links.ensures.0 c.if-are_links.true)
    c.of_parts.result c.of_parts.ensures)

pub returns-else-are_links-clause-made : goal.returns-else-are_links-clause-made
returns-else-are_links-clause-made c =
    rw (c.in-Some-Some-Some.is-0, c.in-Some-Some-Some.is-1, c.in-Some-Some-Some.is-2)
    (chain_unmade c.in-Some-Some-Some.slot c.in-Some-Some-Some.asks.items c.in-Some-Some-Some.links.items
    (λ short.
    false≢true (sym c.if-are_links.false
    ∙ (rw (c.as_slice.ensures.value, c.as_slice-in-Some-Some-Some.ensures.value) at c.are_links.ensures).1 short)))

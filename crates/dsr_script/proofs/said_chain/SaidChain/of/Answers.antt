use Rattle.std.proofs.Common.{◌≡◌, ◌≤◌, ◌∙◌, [], length, ap, subst, sym, arith}
use Rattle.dsr_chain.specs.Content.{content, signed_in, value_of}
use Rattle.dsr_script.specs.ChainText.{spelled_links, IsValue, IsSpelledChain}
use Rattle.dsr_script.proofs.InTurn.{spelled_value}
use Rattle.dsr_script.proofs.KeptLemmas.{HasParts, kept_here, same_chain}
use Rattle.dsr_script.proofs.said_chain.SaidChain.of.Goals as goal

pub invariant_of-result : goal.invariant_of-result
invariant_of-result c =
    let x = c.args.chain.now in
    let links = c.in_ok-links.links.items in
    let links_are : links ≡ spelled_links x.slot (content x.value) [] x.signatures = c.in_ok-links.ensures.same in
    let asks_are : c.in_ok-asks.asks.items ≡ signed_in x.value = c.in_ok-asks.ensures.same ∙ c.signed.ensures.same in
    let parts : HasParts c.slot.result c.in_ok-asks.asks.items links x =
    record { slot_is = c.slot.ensures; value_is = ap value_of asks_are ∙ c.signed.ensures.value; links_are = links_are } in
    let count = ap length asks_are in
    let most = c.signed.ensures.few in
    let few : length c.in_ok-asks.asks.items ≤ 8 = omega (arith, count, most) in
    kept_here c.slot.result c.in_ok-asks.asks.items links x parts few c.requires.few_signatures

pub returns-clause-same : goal.returns-clause-same
returns-clause-same c =
    let x = c.args.chain.now in
    let links = c.in_ok-links.links.items in
    let links_are : links ≡ spelled_links x.slot (content x.value) [] x.signatures = c.in_ok-links.ensures.same in
    let asks_are : c.in_ok-asks.asks.items ≡ signed_in x.value = c.in_ok-asks.ensures.same ∙ c.signed.ensures.same in
    let parts : HasParts c.slot.result c.in_ok-asks.asks.items links x =
    record { slot_is = c.slot.ensures; value_is = ap value_of asks_are ∙ c.signed.ensures.value; links_are = links_are } in
    same_chain c.slot.result c.in_ok-asks.asks.items links x parts

pub returns-clause-spelled : goal.returns-clause-spelled
returns-clause-spelled c =
    let x = c.args.chain.now in
    let spelled : IsSpelledChain x =
    record {
      slot = c.requires.slot;
      value = subst IsValue c.signed.ensures.value (spelled_value (signed_in x.value) c.requires.requests c.signed.ensures.few);
      signatures = record { few = c.requires.few_signatures; each = c.requires.signatures };
    } in
    subst IsSpelledChain (sym (returns-clause-same c)) spelled

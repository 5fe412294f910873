use Rattle.std.specs.Option.{option_map}
use Rattle.std.proofs.lemmas.Result.{IfOk-weaker}
use Rattle.dsr_base.specs.Reads.{Reads}
use Rattle.dsr_chain.specs.Chain.{Chain}
use Rattle.std.proofs.Common.{◌≡◌, ◌↔◌, Some}
use Rattle.dsr_chain.specs.Support.SignedLists.{value_of}
use Rattle.dsr_script.specs.ChainText.{chain_text, IsSpelledChain}
use Rattle.dsr_script.specs.Support.ChainParts.{chain_parts}
use Rattle.dsr_script.specs.Support.SpelledText.{pair_of}
use Rattle.dsr_script.proofs.ChainTextLemmas.{no_slash, one_slash, reads_chain}
use Rattle.dsr_script.proofs.said_chain.SaidChain.read.Goals as goal

pub returns-in_default-clause-read : goal.returns-in_default-clause-read
returns-in_default-clause-read c = no_slash c.args.bytes.now c.in_default.ensures.absent

pub returns-in_default-split_outside-clause-read : goal.returns-in_default-split_outside-clause-read
returns-in_default-split_outside-clause-read c =
    one_slash c.args.bytes.now c.in-Some.slot.now c.in-Some.rest.now c.in-Some.ensures.found c.in-Some.ensures.first c.in_default-split_outside.ensures.free

pub returns-clause-read : goal.returns-clause-read
returns-clause-read c =
    let asks = option_map (λ list. value_of list.items) c.in_ok-asks.asks in
    let links = option_map (λ list. list.items) c.in_ok-links.links in
    IfOk-weaker c.chain_of_parts.result (λ chain. (x : Chain) → (chain ≡ Some x) ↔ (pair_of c.read_num.result (pair_of asks links) ≡ Some (chain_parts x)))
    (λ chain. Reads IsSpelledChain chain_text c.args.bytes.now chain)
    (λ chain made.
    reads_chain c.args.bytes.now c.in-Some.slot.now c.in-Some.rest.now c.in-Some-split_outside.value.now c.in-Some-split_outside.links.now
    c.in-Some.ensures.found c.in-Some.ensures.first c.in-Some-split_outside.ensures.found c.in-Some-split_outside.ensures.first
    c.read_num.result asks links chain c.read_num.ensures c.in_ok-asks.ensures.read c.in_ok-links.ensures.read made)
    c.chain_of_parts.ensures.made

use Rattle.std.proofs.Common.{◌≡◌, ◌++◌, length, ap, ◌∙◌, arith}
use Rattle.dsr_chain.specs.Content.{value_of}
use Rattle.dsr_replica.specs.Replica.{asks_of}
use Rattle.dsr_replica.proofs.Choosing.{is_some, all_count, acting_value}
use Rattle.dsr_replica.proofs.proposal.Proposal.propose.Goals as goal

pub invariant_of-self : goal.invariant_of-self
invariant_of-self c =
    let held = is_some (asks_of c.args.asks.now c.args.clients.now) c.requires.held in
    let items = c.add_to.ensures.added held.0 held.1 ∙ ap (λ xs. xs ++ held.0) c.clear.ensures.items in
    let count = ap length items in
    let each = all_count c.args.asks.now c.args.clients.now held.0 held.1 in
    let few = c.requires.few in
    let cleared = c.clear.ensures.capacity in
    let kept = c.add_to.ensures.room in
    let room = c.self.invariant.room in
    record { few = omega (arith, count, each, few); room = omega (arith, room, cleared, kept) }

pub returns : goal.returns
returns c = λ list e.
    let items : c.add_to.new.list.items ≡ list = c.add_to.ensures.added list e ∙ ap (λ xs. xs ++ list) c.clear.ensures.items in
    let each = all_count c.args.asks.now c.args.clients.now list e in
    let some = c.requires.some in
    ap value_of items ∙ acting_value list (omega (arith, each, some))

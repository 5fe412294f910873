use Rattle.std.proofs.Common.{◌≡◌, ◌++◌, Some, length, ap, ◌∙◌, subst, arith}
use Rattle.std.specs.Prelude.{IfOk}
use Rattle.dsr_chain.specs.Content.{value_of}
use Rattle.dsr_envelope.specs.Envelope.{round_envelope}
use Rattle.dsr_replica.specs.Replica.{Replica, asks_of}
use Rattle.dsr_replica.specs.Support.Flights.{posts_of}
use Rattle.dsr_replica.proofs.Choosing.{all_count, acting_value}
use Rattle.dsr_replica.proofs.Saying.{from_parts}
use Rattle.dsr_replica.proofs.replica.Replica.made_from.Goals as goal

pub returns-clause-made : goal.returns-clause-made
returns-clause-made c = λ value e.
    let r = c.args.self.now in
    let clients = c.as_slice-clients.result.now in
    let parts = from_parts r.shape r.me r.round (asks_of r.asks c.args.clients) value e in
    let held : asks_of c.self.inside.asks clients ≡ Some parts.list =
    ap (asks_of c.self.inside.asks) c.as_slice-clients.ensures.same ∙ (ap (λ (x : Replica). asks_of x.asks c.args.clients) c.self.view_is ∙ parts.are) in
    let items : c.as_slice.result.now ≡ parts.list =
    c.as_slice.ensures.value ∙ (c.add_to.ensures.added parts.list held ∙ ap (λ xs. xs ++ parts.list) c.in_ok-asks.ensures.items) in
    let each = all_count c.self.inside.asks clients parts.list held in
    let some = c.as_slice-clients.ensures.clients.some in
    let same = ap length c.as_slice-clients.ensures.same in
    let is : value_of c.as_slice.result.now ≡ value = ap value_of items ∙ (acting_value parts.list (omega (arith, each, some, same)) ∙ parts.is) in
    subst (λ v. IfOk c.made.result (λ envelope. envelope ≡ round_envelope r.round (posts_of r.me v r.slots))) is c.made.ensures.made

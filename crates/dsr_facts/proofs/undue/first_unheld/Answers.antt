use Rattle.std.proofs.Common.{refl, arith}
use Rattle.std.proofs.lemmas.Option.{slice_get_read, slice_get_within}
use Rattle.dsr_replica.specs.Held.{held}
use Rattle.dsr_facts.proofs.UndueLemmas.{each_place_held, mapped_some, next_held, not_some}
use Rattle.dsr_facts.proofs.undue.first_unheld.Goals as goal

pub loop-client-init : goal.loop-client-init
loop-client-init c log stands i client below = absurd (omega arith)

pub returns-then-is_none-clause-some : goal.returns-then-is_none-clause-some
returns-then-is_none-clause-some c log stands =
    let clients = c.args.clients.now in
    let ask = held c.args.replica.now.shape c.client-item.result log in
    record {
      place = c.loop-client.client-index;
      at = slice_get_read clients _ _ c.client-item.result refl c.loop-client-test.true c.client-item.is;
      none = not_some ask (mapped_some _ ask c.held.result _ (c.held.ensures.stands log stands) c.if-is_none.ensures);
      before = c.loop-client.invariant log stands;
    }

pub loop-client-preserved : goal.loop-client-preserved
loop-client-preserved c log stands =
    let clients = c.args.clients.now in
    let ask = held c.args.replica.now.shape c.client-item.result log in
    next_held c.args.replica.now.shape log clients c.loop-client.client-index c.client-item.result
    (slice_get_read clients _ _ c.client-item.result refl c.loop-client-test.true c.client-item.is)
    (mapped_some _ ask c.held.result _ (c.held.ensures.stands log stands) c.if-is_none.ensures)
    (c.loop-client.invariant log stands)

pub returns-clause-none : goal.returns-clause-none
returns-clause-none c log stands =
    each_place_held c.args.replica.now.shape log c.args.clients.now (λ i client at.
    c.loop-client.invariant log stands i client
    (omega (arith, c.loop-client-test.false, slice_get_within c.args.clients.now i client at)) at)

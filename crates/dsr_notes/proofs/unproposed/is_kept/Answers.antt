use Rattle.std.proofs.Common.{sym, ◌∙◌, subst}
use Rattle.std.specs.Prelude.{◌↔◌, Any, IsTrue}
use Rattle.dsr_rotation.specs.Calendar.{closed_slots}
use Rattle.dsr_replica.specs.Replica.{AreInFlight}
use Rattle.dsr_notes.proofs.UnproposedLemmas.{Keeps, kept_is}
use Rattle.dsr_notes.proofs.unproposed.is_kept.Goals as goal

pub returns : goal.returns
returns c log stands =
    let r = c.args.loyal.now in
    let same = c.in_flight.ensures.same in
    let flights = subst (λ slots. AreInFlight r.shape r.round slots (closed_slots r.shape r.round)) same c.in_flight.ensures.slots in
    let round = sym (c.round-round.ensures.stands log stands) ∙ c.round-round.ensures.same in
    let tests = subst (λ slots. IsTrue c.one_keeps.result ↔ Any (Keeps c.args.request.now) slots) same c.one_keeps.ensures in
    let is = kept_is r log stands flights round c.args.request.now in
    (λ t. is.0 (tests.0 t), λ k. tests.1 (is.1 k))

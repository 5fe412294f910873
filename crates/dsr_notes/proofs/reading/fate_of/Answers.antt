use Rattle.std.proofs.Common.{◌+◌, sym, ◌∙◌, ap, ap₂, subst, add-one}
use Rattle.std.specs.List.{find}
use Rattle.dsr_replica.specs.Replica.{AreInFlight}
use Rattle.dsr_rotation.specs.Calendar.{closed_slots}
use Rattle.dsr_notes.specs.Reading.{IsChainFate}
use Rattle.dsr_notes.specs.declared.note.ChainFate.TheVariants.{Read}
use Rattle.dsr_notes.proofs.ReadingLemmas.{is_state_of, found_in, found_none, open_round, fate_read, fate_unread}
use Rattle.dsr_notes.proofs.reading.fate_of.Goals as goal

pub returns-in_default : goal.returns-in_default
returns-in_default c log stands =
    let r = c.args.loyal.now in
    let slot = c.args.chain.now.slot in
    let are = subst (λ states. AreInFlight r.shape r.round states (closed_slots r.shape r.round)) c.in_flight.ensures.same c.in_flight.ensures.slots in
    fate_unread r log stands (sym c.round-round.ensures.same ∙ c.round-round.ensures.stands log stands) are slot
    (found_none slot r.slots (c.in_default.ensures ∙ ap₂ (λ k states. find (is_state_of k) states) c.slot.ensures c.in_flight.ensures.same))

pub fate_after-requires : goal.fate_after-requires
fate_after-requires c =
    let r = c.args.loyal.now in
    let found = found_in c.slot.result c.in_flight.result.now c.in-Some.state.now c.in-Some.ensures in
    record { within = open_round r.shape r.round c.in_flight.result.now c.in_flight.ensures.slots c.in-Some.state.now found.0 }

pub returns : goal.returns
returns c log stands =
    let r = c.args.loyal.now in
    let chain = c.args.chain.now in
    let before = c.args.before.now in
    let s = c.in-Some.state.now in
    let are = subst (λ states. AreInFlight r.shape r.round states (closed_slots r.shape r.round)) c.in_flight.ensures.same c.in_flight.ensures.slots in
    let found = found_in chain.slot r.slots s
    (c.in-Some.ensures ∙ ap₂ (λ k states. find (is_state_of k) states) c.slot.ensures c.in_flight.ensures.same) in
    subst (λ round. IsChainFate r.shape log before chain (Read round c.in_ok-fate.fate))
    (sym (ap (λ k. k + 1) c.closed_rounds-round.ensures.same ∙ add-one s.closed))
    (fate_read r log stands (sym c.round-round.ensures.same ∙ c.round-round.ensures.stands log stands) are s found.0 before chain found.1 c.in_ok-fate.fate
    c.in_ok-fate.ensures)

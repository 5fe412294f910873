use Rattle.std.proofs.Common.{◌≡◌, ◌<◌, ◌≤◌, ◌+◌, length, ap, sym, ◌∙◌, subst, arith, inl, inr}
use Rattle.std.specs.Prelude.{slice_set}
use Rattle.std.proofs.lemmas.Bool.{cases_lt}
use Rattle.dsr_rotation.specs.Calendar.{closed_slots}
use Rattle.dsr_slot.specs.SlotState.{with_chain}
use Rattle.dsr_replica.specs.Replica.{AreInFlight}
use Rattle.dsr_replica.specs.Support.FlightsFields.{flights_of}
use Rattle.dsr_replica.proofs.InFlight.{all_with, reads_earlier, reads_later, reads_at, flies_on, has_open_round}
use Rattle.dsr_replica.proofs.flights.Flights.read.Goals as goal

pub returns-in_default : goal.returns-in_default
returns-in_default c =
    let a = c.self.inside in
    let first : c.slots_in-first.result.first ≡ closed_slots a.shape a.round =
    c.slots_in-first.ensures.next_to_close ∙ ap (λ s. closed_slots s a.round) c.new.ensures in
    let below : c.args.chain.slot < closed_slots a.shape a.round =
    elim (cases_lt c.args.chain.slot (closed_slots a.shape a.round)) [
      | inl below ↦ below
      | inr above ↦ let slot = c.slot.ensures in absurd (c.in_default.ensures (omega (arith, above, slot, first)))
    ] in
    rw (← c.self.view_is) (ap (λ slots. record (flights_of a) { slots = slots })
    (sym (reads_earlier a.shape a.round c.args.chain a.slots.items (closed_slots a.shape a.round) c.self.invariant.in_flight below)))

pub read-requires : goal.read-requires
read-requires c =
    let a = c.self.inside in
    let place = c.in-Some.place in
    let before = c.if-place-len.true in
    let counted = c.len.ensures in
    let items = a.slots.ok.0 in
    let inside : place < length a.slots.items = omega (arith, before, counted, items) in
    record { within = rw c.index_mut.ensures.value (has_open_round a.shape a.round a.slots.items place c.index_mut.result.now c.self.invariant.in_flight inside) }

pub invariant_of-self : goal.invariant_of-self
invariant_of-self c =
    let a = c.self.inside in
    let place = c.in-Some.place in
    let before = c.if-place-len.true in
    let counted = c.len.ensures in
    let items = a.slots.ok.0 in
    let inside : place < length a.slots.items = omega (arith, before, counted, items) in
    let first : c.slots_in-first.result.first ≡ closed_slots a.shape a.round =
    c.slots_in-first.ensures.next_to_close ∙ ap (λ s. closed_slots s a.round) c.new.ensures in
    let slot = c.slot.ensures in
    let above = c.in-Some.ensures.0 in
    let far = c.in-Some.ensures.1 in
    let is : c.args.chain.slot ≡ closed_slots a.shape a.round + place = omega (arith, first, slot, above, far) in
    let all : slice_set a.slots.items place c.read.new.self ≡ all_with c.args.chain a.slots.items =
    ap (slice_set a.slots.items place) (c.read.ensures.read ∙ ap (λ s. with_chain s c.args.chain) c.index_mut.ensures.value)
    ∙ reads_at a.shape a.round c.args.chain a.slots.items (closed_slots a.shape a.round) place c.index_mut.result.now c.self.invariant.in_flight is inside in
    record {
      in_flight = subst (λ xs. AreInFlight a.shape a.round xs (closed_slots a.shape a.round)) (sym all)
          (flies_on a.shape a.round c.args.chain a.slots.items (closed_slots a.shape a.round) c.self.invariant.in_flight);
      room = c.self.invariant.room;
      few = c.self.invariant.few;
    }

pub returns-then-place-len : goal.returns-then-place-len
returns-then-place-len c =
    let a = c.self.inside in
    let place = c.in-Some.place in
    let before = c.if-place-len.true in
    let counted = c.len.ensures in
    let items = a.slots.ok.0 in
    let inside : place < length a.slots.items = omega (arith, before, counted, items) in
    let first : c.slots_in-first.result.first ≡ closed_slots a.shape a.round =
    c.slots_in-first.ensures.next_to_close ∙ ap (λ s. closed_slots s a.round) c.new.ensures in
    let slot = c.slot.ensures in
    let above = c.in-Some.ensures.0 in
    let far = c.in-Some.ensures.1 in
    let is : c.args.chain.slot ≡ closed_slots a.shape a.round + place = omega (arith, first, slot, above, far) in
    let all : slice_set a.slots.items place c.read.new.self ≡ all_with c.args.chain a.slots.items =
    ap (slice_set a.slots.items place) (c.read.ensures.read ∙ ap (λ s. with_chain s c.args.chain) c.index_mut.ensures.value)
    ∙ reads_at a.shape a.round c.args.chain a.slots.items (closed_slots a.shape a.round) place c.index_mut.result.now c.self.invariant.in_flight is inside in
    rw (← c.self.view_is) (ap (λ slots. record (flights_of a) { slots = slots }) all)

pub returns-else-place-len : goal.returns-else-place-len
returns-else-place-len c =
    let a = c.self.inside in
    let place = c.in-Some.place in
    let counted = c.len.ensures in
    let items = a.slots.ok.0 in
    let past = c.if-place-len.false in
    let outside : length a.slots.items ≤ place = omega (arith, past, counted, items) in
    let first : c.slots_in-first.result.first ≡ closed_slots a.shape a.round =
    c.slots_in-first.ensures.next_to_close ∙ ap (λ s. closed_slots s a.round) c.new.ensures in
    let slot = c.slot.ensures in
    let above = c.in-Some.ensures.0 in
    let far = c.in-Some.ensures.1 in
    let is : c.args.chain.slot ≡ closed_slots a.shape a.round + place = omega (arith, first, slot, above, far) in
    rw (← c.self.view_is) (ap (λ slots. record (flights_of a) { slots = slots })
    (sym (reads_later a.shape a.round c.args.chain a.slots.items (closed_slots a.shape a.round) place c.self.invariant.in_flight is outside)))

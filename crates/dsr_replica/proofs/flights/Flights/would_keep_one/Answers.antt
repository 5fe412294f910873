use Rattle.std.proofs.Common.{◌≡◌, ◌<◌, ◌≤◌, ◌+◌, length, ap, sym, ◌∙◌, arith, inl, inr}
use Rattle.std.specs.Prelude.{slice_set, slice_index_or}
use Rattle.std.proofs.lemmas.Bool.{cases_lt}
use Rattle.std.proofs.lemmas.List.{set-get_or}
use Rattle.dsr_rotation.specs.Calendar.{closed_slots}
use Rattle.dsr_slot.specs.SlotState.{with_chain}
use Rattle.dsr_replica.proofs.InFlight.{reads_earlier, reads_later, reads_at, has_open_round}
use Rattle.dsr_replica.proofs.flights.Flights.would_keep_one.Goals as goal

pub returns-in_default : goal.returns-in_default
returns-in_default c = λ e.
    let a = c.self.inside in
    let chain = c.args.chain.now in
    let first : c.slots_in-first.result.first ≡ closed_slots a.shape a.round =
    c.slots_in-first.ensures.next_to_close ∙ ap (λ s. closed_slots s a.round) c.new.ensures in
    let below : chain.slot < closed_slots a.shape a.round =
    elim (cases_lt chain.slot (closed_slots a.shape a.round)) [
      | inl below ↦ below
      | inr above ↦ let slot = c.slot.ensures in absurd (c.in_default.ensures (omega (arith, above, slot, first)))
    ] in
    rw (← c.self.view_is) (reads_earlier a.shape a.round chain a.slots.items (closed_slots a.shape a.round) c.self.invariant.in_flight below)

pub would_keep-requires : goal.would_keep-requires
would_keep-requires c =
    let a = c.self.inside in
    let place = c.in-Some.place in
    let before = c.if-place-len.false in
    let counted = c.len.ensures in
    let items = a.slots.ok.0 in
    let inside : place < length a.slots.items = omega (arith, before, counted, items) in
    record { within = rw c.index.ensures (has_open_round a.shape a.round a.slots.items place c.index.result.now c.self.invariant.in_flight inside) }

pub returns-then-place-len : goal.returns-then-place-len
returns-then-place-len c = λ e.
    let a = c.self.inside in
    let chain = c.args.chain.now in
    let place = c.in-Some.place in
    let counted = c.len.ensures in
    let items = a.slots.ok.0 in
    let past = c.if-place-len.true in
    let outside : length a.slots.items ≤ place = omega (arith, past, counted, items) in
    let first : c.slots_in-first.result.first ≡ closed_slots a.shape a.round =
    c.slots_in-first.ensures.next_to_close ∙ ap (λ s. closed_slots s a.round) c.new.ensures in
    let slot = c.slot.ensures in
    let above = c.in-Some.ensures.0 in
    let far = c.in-Some.ensures.1 in
    let is : chain.slot ≡ closed_slots a.shape a.round + place = omega (arith, first, slot, above, far) in
    rw (← c.self.view_is) (reads_later a.shape a.round chain a.slots.items (closed_slots a.shape a.round) place c.self.invariant.in_flight is outside)

pub returns : goal.returns
returns c = λ e.
    let a = c.self.inside in
    let chain = c.args.chain.now in
    let place = c.in-Some.place in
    let before = c.if-place-len.false in
    let counted = c.len.ensures in
    let items = a.slots.ok.0 in
    let inside : place < length a.slots.items = omega (arith, before, counted, items) in
    let first : c.slots_in-first.result.first ≡ closed_slots a.shape a.round =
    c.slots_in-first.ensures.next_to_close ∙ ap (λ s. closed_slots s a.round) c.new.ensures in
    let slot = c.slot.ensures in
    let above = c.in-Some.ensures.0 in
    let far = c.in-Some.ensures.1 in
    let is : chain.slot ≡ closed_slots a.shape a.round + place = omega (arith, first, slot, above, far) in
    let d = c.index.result.now in
    let same : with_chain (slice_index_or a.slots.items place d) chain ≡ slice_index_or a.slots.items place d =
    ap (λ s. with_chain s chain) (sym c.index.ensures) ∙ (c.would_keep.ensures.nothing e ∙ c.index.ensures) in
    rw (← c.self.view_is)
    (sym (reads_at a.shape a.round chain a.slots.items (closed_slots a.shape a.round) place d c.self.invariant.in_flight is inside)
    ∙ (ap (slice_set a.slots.items place) same ∙ set-get_or a.slots.items place d))

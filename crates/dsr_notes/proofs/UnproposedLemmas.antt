-- What a loyal replica keeps for the slots in flight.
use Rattle.std.proofs.Common.{◌≡◌, ℕ, zero, suc, ◌+◌, ◌-◌, ◌≤◌, List, [], ◌∷◌, map, inl, inr, refl, ap, sym, ◌∙◌, subst, arith}
use Rattle.std.specs.Prelude.{Any, ◌↔◌}
use Rattle.std.proofs.lemmas.Bool.{cases_lt}
use Rattle.dsr_base.specs.Member.{In, here, there}
use Rattle.dsr_names.specs.Shape.{Shape}
use Rattle.dsr_request.specs.Request.{Request}
use Rattle.dsr_rotation.specs.Calendar.{first_round, closed_slots}
use Rattle.dsr_rotation.proofs.Lemmas.{begins_at, closed_slots_count}
use Rattle.dsr_chain.specs.Content.{signed_in}
use Rattle.dsr_chain.specs.declared.signed_request.SignedRequest.{SignedRequest}
use Rattle.dsr_slot.specs.SlotState.{SlotState}
use Rattle.dsr_slot.specs.declared.kept.Kept.{Kept}
use Rattle.dsr_envelope.specs.Log.{rounds}
use Rattle.dsr_envelope.specs.declared.entry.Entry.{Entry}
use Rattle.dsr_replica.specs.Decided.{slot_kept}
use Rattle.dsr_replica.specs.Replica.{Replica, AreInFlight, StandsFor}
use Rattle.dsr_notes.specs.Unproposed.{IsKept}

-- ---- what holds for some item of a list

module _ {A : Type 0} (P : A → Type 0) where
  some_of : (xs : List A) → Any P xs → (x : A) × In x xs × P x
  some_of [] (k, y, inside, is, p) = absurd (omega (arith, inside))
  some_of (x ∷ xs) (zero, y, inside, is, p) = (x, here refl, subst P (sym is) p)
  some_of (x ∷ xs) (suc k, y, inside, is, p) =
      let later = some_of xs (k, y, omega (arith, inside), is, p) in
      (later.0, there later.1, later.2)

  has_some : (x : A) (xs : List A) → In x xs → P x → Any P xs
  has_some x [] h p = elim h [ ]
  has_some x (y ∷ xs) (here e) p = (0, y, omega arith, refl, subst P (sym e) p)
  has_some x (y ∷ xs) (there h) p =
      let later = has_some x xs h p in
      let inside = later.2 in
      (suc later.0, later.1, omega (arith, inside), later.3, later.4)

-- the requests of asks
asked_in : (asks : List SignedRequest) (request : Request) → Any (λ ask. ask.request ≡ request) asks → In request (map (λ ask. ask.request) asks)
asked_in asks request h = let found = some_of (λ ask. ask.request ≡ request) asks h in mapped asks found.0 found.1 found.2
  where
    mapped : (xs : List SignedRequest) (x : SignedRequest) → In x xs → x.request ≡ request → In request (map (λ ask. ask.request) xs)
    mapped [] x inside is = elim inside [ ]
    mapped (y ∷ ys) x (here e) is = here (ap (λ (a : SignedRequest). a.request) e ∙ is)
    mapped (y ∷ ys) x (there h) is = there (mapped ys x h is)

in_asked : (asks : List SignedRequest) (request : Request) → In request (map (λ ask. ask.request) asks) → Any (λ ask. ask.request ≡ request) asks
in_asked [] request h = elim h [ ]
in_asked (a ∷ asks) request (here e) = (0, a, omega arith, refl, e)
in_asked (a ∷ asks) request (there h) =
    let later = in_asked asks request h in
    let inside = later.2 in
    (suc later.0, later.1, omega (arith, inside), later.3, later.4)

-- ---- the slots in flight

module _ (shape : Shape) (round : ℕ) where
  -- each is of the shape, none is before the first, and the round in progress is the one after its closed rounds
  state_in : (slots : List SlotState) (first : ℕ) → AreInFlight shape round slots first → (s : SlotState) → In s slots
      → (s.shape ≡ shape) × (first ≤ s.slot) × (s.slot + s.closed ≡ round)
  state_in [] first h s inside = elim inside [ ]
  state_in (x ∷ more) first h s (here e) =
      let slot = h.1 in
      let closed = h.2 in
      subst (λ (z : SlotState). (z.shape ≡ shape) × (first ≤ z.slot) × (z.slot + z.closed ≡ round)) e
      (h.0, omega (arith, slot), omega (arith, slot, closed))
  state_in (x ∷ more) first h s (there inside) =
      let later = state_in more (suc first) h.3 s inside in
      let from = later.1 in
      (later.0, omega (arith, from), later.2)

  -- each slot from the first to that of the round is among them
  state_of : (slots : List SlotState) (first : ℕ) → AreInFlight shape round slots first → (slot : ℕ) → first ≤ slot → slot ≤ round
      → (s : SlotState) × In s slots × (s.slot ≡ slot)
  state_of [] first h slot from to = absurd (omega (arith, h, from, to))
  state_of (x ∷ more) first h slot from to = elim (cases_lt first slot) [
    | inl after ↦ let found = state_of more (suc first) h.3 slot after to in (found.0, there found.1, found.2)
    | inr at ↦ let is = h.1 in (x, here refl, omega (arith, is, at, from))
  ]

-- ---- what is kept

-- the kept chain has the request
abbrev HasIt : Request → Kept → Type 0
HasIt request kept = Any (λ ask. ask.request ≡ request) (signed_in kept.chain.value)

-- one of the chains that are kept for the slot has it
abbrev pub Keeps : Request → SlotState → Type 0
Keeps request s = Any (HasIt request) s.kept

module _ (r : Replica) (log : List Entry) (stands : StandsFor r log)
    (flights : AreInFlight r.shape r.round r.slots (closed_slots r.shape r.round)) where
  -- the state of a slot in flight has what is kept for it
  state_kept : (s : SlotState) → In s r.slots → s.kept ≡ slot_kept r.shape log s.slot (suc (r.round - first_round r.shape s.slot))
  state_kept s inside =
      let found = state_in r.shape r.round r.slots (closed_slots r.shape r.round) flights s inside in
      let begun = begins_at r.shape s.slot in
      let ends = found.2 in
      let closed : s.closed ≡ r.round - first_round r.shape s.slot = omega (arith, begun, ends) in
      stands.read s inside
      ∙ (ap (λ shape. slot_kept shape log s.slot (suc s.closed)) found.0 ∙ ap (λ k. slot_kept r.shape log s.slot (suc k)) closed)

  -- a chain with a request is kept in one of these states exactly if the log says that one is kept
  pub kept_is : rounds r.shape log ≡ r.round → (request : Request)
      → Any (Keeps request) r.slots ↔ IsKept r.shape log request
  kept_is round request = (to, from)
    where
      kept_at : (s : SlotState) → In s r.slots → s.kept ≡ slot_kept r.shape log s.slot (suc (rounds r.shape log - first_round r.shape s.slot))
      kept_at s inside = state_kept s inside ∙ ap (λ t. slot_kept r.shape log s.slot (suc (t - first_round r.shape s.slot))) (sym round)

      to : Any (Keeps request) r.slots → IsKept r.shape log request
      to h =
          let at = some_of (Keeps request) r.slots h in
          let in_it = some_of (HasIt request) at.0.kept at.2 in
          let found = state_in r.shape r.round r.slots (closed_slots r.shape r.round) flights at.0 at.1 in
          let begun = begins_at r.shape at.0.slot in
          let after = found.1 in
          let ends = found.2 in
          let count = closed_slots_count r.shape r.round in
          record {
            slot = at.0.slot;
            kept = in_it.0;
            in_flight = record { begun = omega (arith, begun, ends, round); unfinished = omega (arith, begun, ends, after, count, round) };
            is_kept = subst (In in_it.0) (kept_at at.0 at.1) in_it.1;
            stands = asked_in (signed_in in_it.0.chain.value) request in_it.2;
          }

      by_state : (h : IsKept r.shape log request) (s : SlotState) → In s r.slots → s.slot ≡ h.slot → Any (Keeps request) r.slots
      by_state h s inside same =
          let kept = kept_at s inside ∙ ap (λ slot. slot_kept r.shape log slot (suc (rounds r.shape log - first_round r.shape slot))) same in
          has_some (Keeps request) s r.slots inside
          (has_some (HasIt request) h.kept s.kept (subst (In h.kept) (sym kept) h.is_kept) (in_asked (signed_in h.kept.chain.value) request h.stands))

      from : IsKept r.shape log request → Any (Keeps request) r.slots
      from h =
          let begun = begins_at r.shape h.slot in
          let count = closed_slots_count r.shape r.round in
          let after = h.in_flight.begun in
          let before = h.in_flight.unfinished in
          let found = state_of r.shape r.round r.slots (closed_slots r.shape r.round) flights h.slot
          (omega (arith, begun, count, before, round)) (omega (arith, begun, after, round)) in
          by_state h found.0 found.1 found.2

-- The slots in flight, over plain lists: reading a chain changes the chain's own slot alone.
use Rattle.std.proofs.Common.{◌≡◌, ℕ, zero, suc, ◌+◌, ◌<◌, ◌≤◌, List, [], ◌∷◌, length, map, refl, ap, ap₂, sym, ◌∙◌, subst, append_assoc, add-one, arith}
use Rattle.std.specs.Prelude.{◌≢◌, Bool, true, false, All, nat_lt, ◌++◌, if◌then◌else◌, slice_index_or, slice_set}
use Rattle.std.proofs.lemmas.Bool.Decides.{nat_tests}
use Rattle.std.proofs.lemmas.List.{append-nil}
use Rattle.std.proofs.lemmas.List.Elements.{All-nil, All-cons}
use Rattle.std.proofs.lemmas.List.Sums.{fold-append}
use Rattle.dsr_names.specs.Shape.{Shape}
use Rattle.dsr_names.specs.declared.actor.Actor.{Actor}
use Rattle.dsr_chain.specs.declared.slot_value.SlotValue.{SlotValue}
use Rattle.dsr_rotation.specs.Calendar.{closed_slots}
use Rattle.dsr_rotation.proofs.Lemmas.{closed_slots_count, closed_stays}
use Rattle.dsr_chain.specs.Chain.{Chain}
use Rattle.dsr_slot.specs.Keeping.{keep_one}
use Rattle.dsr_slot.specs.SlotState.{SlotState, opened, with_chain, with_closed}
use Rattle.dsr_slot.proofs.Lemmas.{skips_other_slots}
use Rattle.dsr_replica.specs.Replica.{AreInFlight}
use Rattle.dsr_replica.specs.Support.Flights.{HasOpenRound, IsFirstLast, AreOf, with_chains, slot_post, posts_of, rest_of, going_on}

-- each of these slots after one more chain is read
abbrev pub all_with : Chain → List SlotState → List SlotState
all_with chain slots = map (λ s. with_chain s chain) slots

-- a chain for another slot changes nothing
with_other : (s : SlotState) (chain : Chain) → chain.slot ≢ s.slot → with_chain s chain ≡ s
with_other s chain other = ap (λ kept. record s { kept = kept }) (skips_other_slots s.shape s.slot (suc s.closed) s.kept chain other)

module _ (shape : Shape) (round : ℕ) (chain : Chain) where
  -- the slots stay in flight
  pub flies_on : (slots : List SlotState) (first : ℕ) → AreInFlight shape round slots first → AreInFlight shape round (all_with chain slots) first
  flies_on [] first h = h
  flies_on (s ∷ more) first h = (h.0, h.1, h.2, flies_on more (suc first) h.3)

  -- a chain for an earlier slot changes none
  pub reads_earlier : (slots : List SlotState) (first : ℕ) → AreInFlight shape round slots first → chain.slot < first → all_with chain slots ≡ slots
  reads_earlier [] first h earlier = refl
  reads_earlier (s ∷ more) first h earlier =
      let slot = h.1 in
      ap₂ (λ x xs. x ∷ xs) (with_other s chain (λ e. omega (arith, earlier, slot, e))) (reads_earlier more (suc first) h.3 (omega (arith, earlier)))

  -- nor does one for a later slot
  pub reads_later : (slots : List SlotState) (first place : ℕ) → AreInFlight shape round slots first → chain.slot ≡ first + place
      → length slots ≤ place → all_with chain slots ≡ slots
  reads_later [] first place h is later = refl
  reads_later (s ∷ more) first zero h is later = absurd (omega (arith, later))
  reads_later (s ∷ more) first (suc place) h is later =
      let slot = h.1 in
      ap₂ (λ x xs. x ∷ xs) (with_other s chain (λ e. omega (arith, is, slot, e)))
      (reads_later more (suc first) place h.3 (omega (arith, is)) (omega (arith, later)))

  -- a chain for the slot at a place changes that one
  pub reads_at : (slots : List SlotState) (first place : ℕ) (d : SlotState) → AreInFlight shape round slots first → chain.slot ≡ first + place
      → place < length slots → slice_set slots place (with_chain (slice_index_or slots place d) chain) ≡ all_with chain slots
  reads_at [] first place d h is inside = absurd (omega (arith, inside))
  reads_at (s ∷ more) first zero d h is inside =
      ap (λ xs. with_chain s chain ∷ xs) (sym (reads_earlier more (suc first) h.3 (omega (arith, is))))
  reads_at (s ∷ more) first (suc place) d h is inside =
      let slot = h.1 in
      ap₂ (λ x xs. x ∷ xs) (sym (with_other s chain (λ e. omega (arith, is, slot, e))))
      (reads_at more (suc first) place d h.3 (omega (arith, is)) (omega (arith, inside)))

module _ (shape : Shape) (round : ℕ) where
  -- the slot at a place, and the number of its closed rounds
  at_place : (slots : List SlotState) (first place : ℕ) (d : SlotState) → AreInFlight shape round slots first → place < length slots
      → ((slice_index_or slots place d).shape ≡ shape) × (first + place + (slice_index_or slots place d).closed ≡ round)
  at_place [] first place d h inside = absurd (omega (arith, inside))
  at_place (s ∷ more) first zero d h inside = let closed = h.2 in (h.0, omega (arith, closed))
  at_place (s ∷ more) first (suc place) d h inside =
      let later = at_place more (suc first) place d h.3 (omega (arith, inside)) in
      let closed = later.1 in
      (later.0, omega (arith, closed))

  -- no slot in flight has all its rounds closed
  pub has_open_round : (slots : List SlotState) (place : ℕ) (d : SlotState) → AreInFlight shape round slots (closed_slots shape round)
      → place < length slots → (slice_index_or slots place d).closed ≤ (slice_index_or slots place d).shape.f
  has_open_round slots place d h inside =
      let found = at_place slots (closed_slots shape round) place d h inside in
      let same = ap (λ (s : Shape). s.f) found.0 in
      let count = closed_slots_count shape round in
      let closed = found.1 in
      omega (arith, same, count, closed)

-- in round 0 slot 0 alone is in flight
pub first_flight : (shape : Shape) (slots : List SlotState) → slots ≡ opened shape 0 ∷ []
    → AreInFlight shape 0 slots (closed_slots shape 0)
first_flight shape slots is =
    let none : closed_slots shape 0 ≡ 0 = let count = closed_slots_count shape 0 in omega (arith, count) in
    rw (is, none) (refl, refl, refl, refl)

-- ---- reading several chains

with_more : (chains : List Chain) (chain : Chain) (s : SlotState) → with_chain (with_chains chains s) chain ≡ with_chains (chains ++ chain ∷ []) s
with_more chains chain s =
    ap (λ kept. record s { kept = kept }) (sym (fold-append (keep_one s.shape s.slot (suc s.closed)) s.kept chains (chain ∷ [])))

-- reading no chain changes nothing
pub all_none : (slots : List SlotState) → map (with_chains []) slots ≡ slots
all_none [] = refl
all_none (s ∷ more) = ap (λ xs. s ∷ xs) (all_none more)

-- reading one more chain
pub all_more : (chains : List Chain) (chain : Chain) (slots : List SlotState)
    → all_with chain (map (with_chains chains) slots) ≡ map (with_chains (chains ++ chain ∷ [])) slots
all_more chains chain [] = refl
all_more chains chain (s ∷ more) = ap₂ (λ x xs. x ∷ xs) (with_more chains chain s) (all_more chains chain more)

-- the slots stay in flight
pub flies_reading : (shape : Shape) (round : ℕ) (chains : List Chain) (slots : List SlotState) (first : ℕ) → AreInFlight shape round slots first
    → AreInFlight shape round (map (with_chains chains) slots) first
flies_reading shape round chains [] first h = h
flies_reading shape round chains (s ∷ more) first h = (h.0, h.1, h.2, flies_reading shape round chains more (suc first) h.3)

-- ---- closing a round

module _ (shape : Shape) (round : ℕ) where
  -- as many slots are in flight as from the first to that of the round
  pub count_in_flight : (slots : List SlotState) (first : ℕ) → AreInFlight shape round slots first → first + length slots ≡ suc round
  count_in_flight [] first h = omega (arith, h)
  count_in_flight (s ∷ more) first h = let count = count_in_flight more (suc first) h.3 in omega (arith, count)

  -- with each round closed, and the slot of the next one, they are those in flight in the next round
  next_flight : (slots : List SlotState) (first : ℕ) → AreInFlight shape round slots first
      → AreInFlight shape (suc round) (map with_closed slots ++ opened shape (suc round) ∷ []) first
  next_flight [] first h = (refl, sym h, omega (arith, h), ap suc h)
  next_flight (s ∷ more) first h = let closed = h.2 in (h.0, h.1, omega (arith, closed), next_flight more (suc first) h.3)

  go_on : (slots : List SlotState) (b : Bool) → b ≡ nat_lt round shape.f → AreInFlight shape round slots (closed_slots shape round)
      → AreInFlight shape round (if b then slots else rest_of slots) (closed_slots shape (suc round))
  go_on slots true e h =
      let now = closed_slots_count shape round in
      let later = closed_slots_count shape (suc round) in
      let same : closed_slots shape round ≡ closed_slots shape (suc round) = grind (arith, nat_tests) in
      subst (AreInFlight shape round slots) same h
  go_on [] false e h =
      let now = closed_slots_count shape round in absurd (omega (arith, now, h))
  go_on (s ∷ more) false e h =
      let now = closed_slots_count shape round in
      let later = closed_slots_count shape (suc round) in
      let next : suc (closed_slots shape round) ≡ closed_slots shape (suc round) = grind (arith, nat_tests) in
      subst (AreInFlight shape round more) next h.3

  -- the slots of the next round
  pub flies_next : (slots : List SlotState) → AreInFlight shape round slots (closed_slots shape round)
      → AreInFlight shape (suc round) (map with_closed (going_on shape round slots) ++ opened shape (suc round) ∷ []) (closed_slots shape (suc round))
  flies_next slots h = next_flight (going_on shape round slots) (closed_slots shape (suc round)) (go_on slots (nat_lt round shape.f) refl h)

  -- from round f on the first slot is in its last round
  pub first_is_last : (slots : List SlotState) → AreInFlight shape round slots (closed_slots shape round) → nat_lt round shape.f ≡ false → IsFirstLast slots
  first_is_last [] h e = let now = closed_slots_count shape round in absurd (omega (arith, now, h))
  first_is_last (s ∷ more) h e =
      let now = closed_slots_count shape round in
      let same = ap (λ (s : Shape). s.f) h.0 in
      let closed = h.2 in
      grind (arith, nat_tests)

  -- each slot has a round that can be closed
  pub open_from : (slots : List SlotState) (first : ℕ) → AreInFlight shape round slots first → closed_slots shape round ≤ first → All HasOpenRound slots
  open_from [] first h from = All-nil HasOpenRound
  open_from (s ∷ more) first h from =
      let now = closed_slots_count shape round in
      let same = ap (λ (s : Shape). s.f) h.0 in
      let closed = h.2 in
      let this : HasOpenRound s = omega (arith, now, same, closed, from) in
      All-cons HasOpenRound s more this (open_from more (suc first) h.3 (omega (arith, from)))

  pub all_of_shape : (slots : List SlotState) (first : ℕ) → AreInFlight shape round slots first → AreOf shape slots
  all_of_shape [] first h = All-nil (λ (s : SlotState). s.shape ≡ shape)
  all_of_shape (s ∷ more) first h = All-cons (λ (x : SlotState). x.shape ≡ shape) s more h.0 (all_of_shape more (suc first) h.3)

  -- so has each slot that goes on
  pub all_open : (slots : List SlotState) → AreInFlight shape round slots (closed_slots shape round) → All HasOpenRound (going_on shape round slots)
  all_open slots h =
      open_from (going_on shape round slots) (closed_slots shape (suc round)) (go_on slots (nat_lt round shape.f) refl h)
      (closed_stays shape round (suc round) (omega arith))

  -- there is room for one more beside those that go on
  pub few_go_on : (slots : List SlotState) → AreInFlight shape round slots (closed_slots shape round) → length (going_on shape round slots) ≤ shape.f
  few_go_on slots h =
      let later = closed_slots_count shape (suc round) in
      let count = count_in_flight (going_on shape round slots) (closed_slots shape (suc round)) (go_on slots (nat_lt round shape.f) refl h) in
      omega (arith, later, count)

-- ---- closing each slot, one after the other

-- the slots, with the round closed in the first `count` of them
abbrev pub first_closed : ℕ → List SlotState → List SlotState
first_closed zero slots = slots
first_closed (suc count) [] = []
first_closed (suc count) (s ∷ more) = with_closed s ∷ first_closed count more

-- one more is closed
pub close_next : (count : ℕ) (slots : List SlotState) (d : SlotState) → count < length slots
    → slice_set (first_closed count slots) count (with_closed (slice_index_or (first_closed count slots) count d)) ≡ first_closed (suc count) slots
close_next count [] d inside = absurd (omega (arith, inside))
close_next zero (s ∷ more) d inside = refl
close_next (suc count) (s ∷ more) d inside = ap (λ xs. with_closed s ∷ xs) (close_next count more d (omega (arith, inside)))

-- the next one is as it was
pub not_yet_closed : (count : ℕ) (slots : List SlotState) (d : SlotState) → slice_index_or (first_closed count slots) count d ≡ slice_index_or slots count d
not_yet_closed zero slots d = refl
not_yet_closed (suc count) [] d = refl
not_yet_closed (suc count) (s ∷ more) d = not_yet_closed count more d

pub all_closed : (slots : List SlotState) → first_closed (length slots) slots ≡ map with_closed slots
all_closed [] = refl
all_closed (s ∷ more) = ap (λ xs. with_closed s ∷ xs) (all_closed more)

-- what the code puts together is the slots of the next round
pub next_flies : (shape : Shape) (round : ℕ) (slots items : List SlotState) → AreInFlight shape round slots (closed_slots shape round)
    → items ≡ map with_closed (going_on shape round slots) ++ opened shape (round + 1) ∷ []
    → AreInFlight shape (round + 1) items (closed_slots shape (round + 1))
next_flies shape round slots items h is =
    subst (λ xs. AreInFlight shape (round + 1) xs (closed_slots shape (round + 1))) (sym is)
    (subst (λ r. AreInFlight shape r (map with_closed (going_on shape round slots) ++ opened shape r ∷ []) (closed_slots shape r)) (sym (add-one round))
    (flies_next shape round slots h))

-- ---- what is posted

-- what is posted for one more slot
pub posts_more : (me : Actor) (value : SlotValue) (slots : List SlotState) (s : SlotState)
    → posts_of me value (slots ++ s ∷ []) ≡ posts_of me value slots ++ slot_post me value s
posts_more me value [] s = append-nil (slot_post me value s)
posts_more me value (x ∷ more) s =
    ap (λ xs. slot_post me value x ++ xs) (posts_more me value more s)
    ∙ sym (append_assoc (slot_post me value x) (posts_of me value more) (slot_post me value s))

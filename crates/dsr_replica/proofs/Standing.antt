-- A replica represents its log, call by call, over plain variables.
use Rattle.dsr_replica.proofs.Joining.{each_same}
use Rattle.dsr_replica.specs.Support.Asks.{asks_with}
use Rattle.dsr_replica.specs.Held.{held, held_with}
use Rattle.dsr_replica.specs.Conduct.{envelope_with, chains_posted}
use Rattle.dsr_names.specs.declared.actor.Actor.{Actor}
use Rattle.std.proofs.lemmas.List.{get_or-set_same, get_or-set_other}
use Rattle.std.proofs.Common.{◌≡◌, ℕ, suc, ◌+◌, ◌-◌, ◌<◌, ◌≤◌, ◌==◌, nat_lt, Bool, true, false, List, [], ◌∷◌, length, map, None, if◌then◌else◌, inl, inr, refl, ap, ap₂, sym, ◌∙◌, subst, arith, zero, ◌++◌, Option, Some}
use Rattle.std.specs.Prelude.{All, slice_get, slice_index_or, slice_set}
use Rattle.std.proofs.lemmas.Bool.{false_from_ne_true, false≢true}
use Rattle.std.proofs.lemmas.Bool.Decides.{nat_tests, Decides-eqb}
use Rattle.std.proofs.lemmas.List.Elements.{All-map}
use Rattle.dsr_base.specs.Member.{In, here, there}
use Rattle.dsr_base.proofs.MemberLemmas.{In-one, In-append_cases}
use Rattle.dsr_names.specs.Shape.{Shape}
use Rattle.dsr_names.specs.declared.actor.Actor.TheVariants.{Replica as ReplicaNumber, Client as ClientNumber}
use Rattle.dsr_request.specs.Request.{Request}
use Rattle.dsr_rotation.specs.Calendar.{closed_slots, first_round}
use Rattle.dsr_rotation.proofs.Lemmas.{closed_slots_count, closed_below}
use Rattle.dsr_chain.specs.Chain.{Chain}
use Rattle.dsr_chain.specs.Content.{signed_in, requests_in}
use Rattle.dsr_chain.specs.Proper.{IsAsked}
use Rattle.dsr_chain.specs.declared.signed_request.SignedRequest.{SignedRequest}
use Rattle.dsr_chain.specs.declared.slot_value.SlotValue.{SlotValue}
use Rattle.dsr_slot.specs.Decision.{decision}
use Rattle.dsr_slot.specs.SlotState.{SlotState, HasRead, opened, with_closed}
use Rattle.dsr_slot.proofs.Lemmas.{from_map, after_same}
use Rattle.dsr_envelope.specs.declared.envelope.Envelope.{Envelope}
use Rattle.dsr_envelope.specs.declared.envelope.Envelope.TheVariants.{Empty, Round, Ask, Reply, Seen}
use Rattle.dsr_envelope.specs.declared.entry.Entry.{Entry}
use Rattle.dsr_envelope.specs.declared.entry.Entry.TheVariants.{Post, Take}
use Rattle.dsr_envelope.specs.declared.due.Due.{Due}
use Rattle.dsr_envelope.specs.declared.due.Due.TheVariants.{Post as PostTo, Take as TakeFrom}
use Rattle.dsr_replica.specs.Counts.{IsInside, takes_at, HasCounts}
use Rattle.dsr_replica.specs.Decided.{slot_read, slot_kept, slot_decided, values, chains_of, sent, decided_values}
use Rattle.dsr_envelope.specs.Envelope.{chains_for, round_envelope}
use Rattle.dsr_envelope.specs.Log.{taken_from, due, rounds}
use Rattle.dsr_replica.specs.Replica.{AreInFlight, Replica, IsLaterPost, ask_of, StandsFor}
use Rattle.dsr_replica.specs.Support.Flights.{Flights, with_chains, going_on, rest_of, first_decided, decided_with}
use Rattle.dsr_replica.specs.Support.ReplicaFields.{with_envelope, with_decided, next_round, IsAfterTake}
use Rattle.dsr_replica.proofs.Counting.{after_take}
use Rattle.dsr_replica.proofs.Growing.{HasTaken, decided_same, values_same, chains_same}
use Rattle.dsr_replica.proofs.InFlight.{all_none, first_is_last, flies_reading}
use Rattle.dsr_replica.proofs.Reading.{taken_all, reads_take, reads_closed, reads_opened}

-- ---- at the start

pub stands_new : (r : Replica) (shape : Shape) → 0 < shape.n → r.shape ≡ shape → r.next ≡ PostTo 0 → r.round ≡ 0
    → r.slots ≡ opened shape 0 ∷ [] → r.values ≡ [] → ((client : ℕ) → ask_of r.asks client ≡ None) → StandsFor r []
stands_new r shape some of next round slots none asks = record {
  due_is = next;
  counts = record {
    inside = let same = ap (λ (s : Shape). s.n) of in omega (arith, some, same);
    posts = λ q within. grind (arith, nat_tests);
    takes = λ p within. sym round;
  };
  read = λ s h.
      subst (λ x. HasRead x (slot_read x.shape [] x.slot)) (In-one s (opened shape 0) (subst (In s) slots h))
      (reads_opened shape [] 0 (λ p within. omega arith));
  values_are =
      let first : 0 ≡ closed_slots r.shape 0 = let count = closed_slots_count r.shape 0 in omega (arith, count) in
      none ∙ ap (values (slot_decided r.shape [])) first;
  asks_are = asks;
  posted = λ later. let first : 0 < 0 = subst (λ d. IsLaterPost d) next later in absurd (omega (arith, first));
}

-- ---- what is decided

-- the requests of what was asked are of the shape's clients
pub asked_clients : (shape : Shape) (value : SlotValue) → All (IsAsked shape) (signed_in value) → All (λ (r : Request). r.client < shape.m) (requests_in value)
asked_clients shape value asked =
    All-map (λ (r : Request). r.client < shape.m) (λ (s : SignedRequest). s.request) (signed_in value) (λ k d inside. (asked k d inside).client)

-- with a round as many values are decided as slots close
pub decided_count : (shape : Shape) (round : ℕ) (slots : List SlotState) (found : List SlotValue) → AreInFlight shape round slots (closed_slots shape round)
    → length found ≡ closed_slots shape round → length (with_decided (decided_with shape round slots) found) ≡ closed_slots shape (suc round)
decided_count shape round slots found h count = counted (nat_lt round shape.f) slots refl h
  where
    counted : (b : Bool) (slots : List SlotState) → b ≡ nat_lt round shape.f → AreInFlight shape round slots (closed_slots shape round)
        → length (with_decided (if b then None else first_decided slots) found) ≡ closed_slots shape (suc round)
    counted true slots e h =
        let now = closed_slots_count shape round in let later = closed_slots_count shape (suc round) in grind (arith, nat_tests)
    counted false [] e h = let now = closed_slots_count shape round in absurd (omega (arith, now, h))
    counted false (s ∷ more) e h =
        let now = closed_slots_count shape round in let later = closed_slots_count shape (suc round) in
        let next : suc (closed_slots shape round) ≡ closed_slots shape (suc round) = grind (arith, nat_tests) in
        ap suc count ∙ next

-- ---- an envelope without chains for the round

-- one of another kind has none
pub none_for : (t : ℕ) (envelope : Envelope) → ((round : ℕ) (chains : List Chain) → envelope ≡ Round round chains → ⊥) → chains_for t envelope ≡ []
none_for t Empty other = refl
none_for t (Round round chains) other = absurd (other round chains refl)
none_for t (Ask ask) other = refl
none_for t (Reply reply) other = refl
none_for t (Seen front) other = refl

-- nor has one of another round
pub none_of_other : (t round : ℕ) (chains : List Chain) (envelope : Envelope) → envelope ≡ Round round chains → (round ≡ t → ⊥) → chains_for t envelope ≡ []
none_of_other t round chains envelope is other =
    ap (chains_for t) is ∙ ap (λ b. if b then chains else []) (false_from_ne_true (round == t) (λ e. other ((Decides-eqb round t).0 e)))

-- reading it changes nothing
pub reads_nothing : (flights : Flights) (envelope : Envelope) → chains_for flights.round envelope ≡ []
    → flights ≡ record flights { slots = map (with_chains (chains_for flights.round envelope)) flights.slots }
reads_nothing flights envelope none =
    ap (λ slots. record flights { slots = slots }) (sym (all_none flights.slots) ∙ ap (λ chains. map (with_chains chains) flights.slots) (sym none))

-- ---- counts

-- there is some replica
pub some_replica : (d : Due) (n : ℕ) → IsInside n d → 0 < n
some_replica (PostTo k) n inside = omega (arith, inside)
some_replica (TakeFrom k) n inside = omega (arith, inside)

last_taken : (d : Due) (t n : ℕ) → IsInside n d → takes_at d t (n - 1) ≡ t
last_taken (PostTo k) t n inside = refl
last_taken (TakeFrom k) t n inside = grind (arith, nat_tests)

-- the rounds that are counted are those of the log
pub rounds_are : (shape : Shape) (log : List Entry) (t : ℕ) → HasCounts shape log t → rounds shape log ≡ t
rounds_are shape log t counts =
    let some = some_replica (due shape log) shape.n counts.inside in
    counts.takes (shape.n - 1) (omega (arith, some)) ∙ last_taken (due shape log) t shape.n counts.inside

-- ---- slots in flight

pub facts_of : (shape : Shape) (round : ℕ) (slots : List SlotState) (first : ℕ) → AreInFlight shape round slots first → (s : SlotState) → In s slots
    → (s.shape ≡ shape) × (s.slot + s.closed ≡ round)
facts_of shape round [] first h s i = elim i [ ]
facts_of shape round (x ∷ more) first h s (here e) =
    subst (λ (y : SlotState). (y.shape ≡ shape) × (y.slot + y.closed ≡ round)) e (h.0, ap (λ k. k + x.closed) h.1 ∙ h.2)
facts_of shape round (x ∷ more) first h s (there i) = facts_of shape round more (suc first) h.3 s i

in_rest : (slots : List SlotState) (s : SlotState) → In s (rest_of slots) → In s slots
in_rest [] s i = i
in_rest (x ∷ more) s i = there i

in_going : (b : Bool) (slots : List SlotState) (s : SlotState) → In s (if b then slots else rest_of slots) → In s slots
in_going true slots s i = i
in_going false slots s i = in_rest slots s i

-- what each slot has read after a take
reads_all : (shape : Shape) (round : ℕ) (log : List Entry) (p : ℕ) (envelope : Envelope) (slots : List SlotState) (first : ℕ)
    → AreInFlight shape round slots first → HasCounts shape log round → due shape log ≡ TakeFrom p → p < shape.n
    → ((s : SlotState) → In s slots → HasRead s (slot_read s.shape log s.slot))
    → (s : SlotState) → In s (map (with_chains (chains_for round envelope)) slots)
    → HasRead s (slot_read s.shape (Take (ReplicaNumber p) envelope ∷ log) s.slot)
reads_all shape round log p envelope slots first h counts is inside reads s i =
    let found = from_map (with_chains (chains_for round envelope)) s slots i in
    let x = found.0 in
    let facts = facts_of shape round slots first h x found.1 in
    let of : shape ≡ x.shape = sym facts.0 in
    subst (λ (y : SlotState). HasRead y (slot_read y.shape (Take (ReplicaNumber p) envelope ∷ log) y.slot)) found.2
    (reads_take x log round p envelope (subst (λ sh. HasCounts sh log round) of counts) (subst (λ sh. due sh log ≡ TakeFrom p) of is)
    (subst (λ (sh : Shape). p < sh.n) of inside) facts.1 (reads x found.1))

-- ---- decided values

values_stay : (shape : Shape) (entry : Entry) (log : List Entry) (t : ℕ) → HasTaken shape log t
    → values (slot_decided shape log) (closed_slots shape t) ≡ values (slot_decided shape (entry ∷ log)) (closed_slots shape t)
values_stay shape entry log t taken =
    values_same (slot_decided shape log) (slot_decided shape (entry ∷ log)) (closed_slots shape t)
    (λ slot below. sym (decided_same shape entry log t slot taken (closed_below shape slot t below)))

-- with a round the slot that closes is decided
values_next : (shape : Shape) (t : ℕ) (log : List Entry) (found : List SlotValue) (b : Bool) (slots : List SlotState) → b ≡ nat_lt t shape.f
    → AreInFlight shape t slots (closed_slots shape t) → ((s : SlotState) → In s slots → HasRead s (slot_read s.shape log s.slot))
    → found ≡ values (slot_decided shape log) (closed_slots shape t)
    → with_decided (if b then None else first_decided slots) found ≡ values (slot_decided shape log) (closed_slots shape (suc t))
values_next shape t log found true slots e h reads is =
    let now = closed_slots_count shape t in let later = closed_slots_count shape (suc t) in
    let same : closed_slots shape t ≡ closed_slots shape (suc t) = grind (arith, nat_tests) in
    is ∙ ap (values (slot_decided shape log)) same
values_next shape t log found false [] e h reads is = let now = closed_slots_count shape t in absurd (omega (arith, now, h))
values_next shape t log found false (s ∷ more) e h reads is =
    let now = closed_slots_count shape t in let later = closed_slots_count shape (suc t) in
    let next : suc (closed_slots shape t) ≡ closed_slots shape (suc t) = grind (arith, nat_tests) in
    let last : s.closed ≡ shape.f = first_is_last shape t (s ∷ more) h (sym e) ∙ ap (λ (sh : Shape). sh.f) h.0 in
    let whole : s.kept ≡ slot_kept shape log (closed_slots shape t) (suc shape.f) =
    reads s (here refl) ∙ (ap (λ sh. slot_kept sh log s.slot (suc s.closed)) h.0
    ∙ (ap (λ k. slot_kept shape log k (suc s.closed)) h.1 ∙ ap (λ c. slot_kept shape log (closed_slots shape t) (suc c)) last)) in
    ap₂ (λ v vs. v ∷ vs) (ap decision whole) is ∙ ap (values (slot_decided shape log)) next

-- ---- takes

-- a take in mid-round
pub stands_mid : (r : Replica) (log : List Entry) (p : ℕ) (envelope : Envelope) → AreInFlight r.shape r.round r.slots (closed_slots r.shape r.round)
    → StandsFor r log → r.next ≡ TakeFrom p → (suc p == r.shape.n) ≡ false
    → StandsFor (record (with_envelope r envelope) { next = TakeFrom (suc p) }) (Take (ReplicaNumber p) envelope ∷ log)
stands_mid r log p envelope h stands is more =
    let entry = Take (ReplicaNumber p) envelope in
    let now : due r.shape log ≡ TakeFrom p = sym stands.due_is ∙ is in
    let inside : p < r.shape.n = subst (IsInside r.shape.n) now stands.counts.inside in
    let later : HasCounts r.shape (entry ∷ log) r.round =
    subst (HasCounts r.shape (entry ∷ log)) (ap (λ b. if b then suc r.round else r.round) more) (after_take r.shape log envelope p r.round stands.counts now) in
    record {
      due_is = sym (ap (λ b. if b then PostTo 0 else TakeFrom (suc p)) more);
      counts = later;
      read = reads_all r.shape r.round log p envelope r.slots (closed_slots r.shape r.round) h stands.counts now inside stands.read;
      values_are = stands.values_are
          ∙ (ap (λ t. values (slot_decided r.shape log) (closed_slots r.shape t)) (rounds_are r.shape log r.round stands.counts)
          ∙ (values_stay r.shape entry log r.round (taken_all r.shape log r.round stands.counts)
          ∙ ap (λ t. values (slot_decided r.shape (entry ∷ log)) (closed_slots r.shape t)) (sym (rounds_are r.shape (entry ∷ log) r.round later))));
      asks_are = stands.asks_are;
      posted = λ none. absurd none;
    }

-- the last take of a round
pub stands_last : (r : Replica) (log : List Entry) (p : ℕ) (envelope : Envelope) → AreInFlight r.shape r.round r.slots (closed_slots r.shape r.round)
    → StandsFor r log → r.next ≡ TakeFrom p → (suc p == r.shape.n) ≡ true
    → StandsFor (next_round (with_envelope r envelope)) (Take (ReplicaNumber p) envelope ∷ log)
stands_last r log p envelope h stands is last =
    let entry = Take (ReplicaNumber p) envelope in
    let slots = map (with_chains (chains_for r.round envelope)) r.slots in
    let now : due r.shape log ≡ TakeFrom p = sym stands.due_is ∙ is in
    let inside : p < r.shape.n = subst (IsInside r.shape.n) now stands.counts.inside in
    let next : due r.shape (entry ∷ log) ≡ PostTo 0 = ap (λ b. if b then PostTo 0 else TakeFrom (suc p)) last in
    let later : HasCounts r.shape (entry ∷ log) (suc r.round) =
    subst (HasCounts r.shape (entry ∷ log)) (ap (λ b. if b then suc r.round else r.round) last) (after_take r.shape log envelope p r.round stands.counts now) in
    let count : (q : ℕ) → q < r.shape.n → length (taken_from (ReplicaNumber q) (entry ∷ log)) ≡ suc r.round =
    λ q within. later.takes q within ∙ ap (λ d. takes_at d (suc r.round) q) next in
    let flies : AreInFlight r.shape r.round slots (closed_slots r.shape r.round) =
    flies_reading r.shape r.round (chains_for r.round envelope) r.slots (closed_slots r.shape r.round) h in
    let reads : (s : SlotState) → In s slots → HasRead s (slot_read s.shape (entry ∷ log) s.slot) =
    reads_all r.shape r.round log p envelope r.slots (closed_slots r.shape r.round) h stands.counts now inside stands.read in
    record {
      due_is = sym next;
      counts = later;
      read = λ s i. elim (In-append_cases s (map with_closed (going_on r.shape r.round slots)) (opened r.shape (suc r.round) ∷ []) i) [
        | inl old ↦
            let found = from_map with_closed s (going_on r.shape r.round slots) old in
            let within = in_going (nat_lt r.round r.shape.f) slots found.0 found.1 in
            let facts = facts_of r.shape r.round slots (closed_slots r.shape r.round) flies found.0 within in
            subst (λ (y : SlotState). HasRead y (slot_read y.shape (entry ∷ log) y.slot)) found.2
            (reads_closed found.0 (entry ∷ log) r.round (λ q below. count q (subst (λ (sh : Shape). q < sh.n) facts.0 below)) facts.1 (reads found.0 within))
        | inr new ↦
            subst (λ (y : SlotState). HasRead y (slot_read y.shape (entry ∷ log) y.slot)) (In-one s (opened r.shape (suc r.round)) new)
            (reads_opened r.shape (entry ∷ log) (suc r.round) (λ q within. let c = count q within in omega (arith, c)))
      ];
      values_are =
          values_next r.shape r.round (entry ∷ log) r.values (nat_lt r.round r.shape.f) slots refl flies reads
          (stands.values_are
          ∙ (ap (λ t. values (slot_decided r.shape log) (closed_slots r.shape t)) (rounds_are r.shape log r.round stands.counts)
          ∙ values_stay r.shape entry log r.round (taken_all r.shape log r.round stands.counts)))
          ∙ ap (λ t. values (slot_decided r.shape (entry ∷ log)) (closed_slots r.shape t)) (sym (rounds_are r.shape (entry ∷ log) (suc r.round) later));
      asks_are = stands.asks_are;
      posted = λ none. absurd (omega (arith, none));
    }

-- more room or less does not matter
pub stands_with_room : (r : Replica) (log : List Entry) (requests places : ℕ) → StandsFor r log
    → StandsFor (record r { requests = requests; places = places }) log
stands_with_room r log requests places stands =
    record { due_is = stands.due_is; counts = stands.counts; read = stands.read; values_are = stands.values_are; asks_are = stands.asks_are; posted = stands.posted }

-- a take that was read, and what is due after it
pub stands_taken : (r after : Replica) (log : List Entry) (p : ℕ) (envelope : Envelope) → AreInFlight r.shape r.round r.slots (closed_slots r.shape r.round)
    → StandsFor r log → r.next ≡ TakeFrom p → IsAfterTake (with_envelope r envelope) p after → StandsFor after (Take (ReplicaNumber p) envelope ∷ log)
stands_taken r after log p envelope h stands is goes = by_case (suc p == r.shape.n) refl
  where
    by_case : (b : Bool) → (suc p == r.shape.n) ≡ b → StandsFor after (Take (ReplicaNumber p) envelope ∷ log)
    by_case false e = subst (λ x. StandsFor x (Take (ReplicaNumber p) envelope ∷ log)) (sym (goes.more e)) (stands_mid r log p envelope h stands is e)
    by_case true e =
        subst (λ x. StandsFor x (Take (ReplicaNumber p) envelope ∷ log)) (sym (goes.last e))
        (stands_with_room (next_round (with_envelope r envelope)) (Take (ReplicaNumber p) envelope ∷ log) after.requests after.places
        (stands_last r log p envelope h stands is e))

-- the code's test for the last replica, on a replica that comes before it and on the last one
pub is_more : (p n next : ℕ) → next ≡ p + 1 → next < n → (suc p == n) ≡ false
is_more p n next is more = false_from_ne_true (suc p == n) (λ e. let same = (Decides-eqb (suc p) n).0 e in omega (arith, is, more, same))

pub is_last : (d : Due) (p n next : ℕ) → d ≡ TakeFrom p → IsInside n d → next ≡ p + 1 → n ≤ next → (suc p == n) ≡ true
is_last d p n next due within is most =
    let inside : p < n = subst (IsInside n) due within in
    (Decides-eqb (suc p) n).1 (omega (arith, inside, is, most))

-- ---- entries that take nothing from a replica

-- one empty place more in a list of empty places
pub still_none : {A : Type 0} (xs : List (Option A)) → ((place : ℕ) → slice_index_or xs place None ≡ None)
    → (place : ℕ) → slice_index_or (xs ++ None ∷ []) place None ≡ None
still_none [] none zero = refl
still_none [] none (suc place) = refl
still_none (x ∷ xs) none zero = none 0
still_none (x ∷ xs) none (suc place) = still_none xs (λ k. none (suc k)) place

module _ (shape : Shape) (entry : Entry) (log : List Entry) (same : (p : ℕ) → taken_from (ReplicaNumber p) (entry ∷ log) ≡ taken_from (ReplicaNumber p) log) where
  read_unmoved : (slot round : ℕ) → slot_read shape (entry ∷ log) slot round ≡ slot_read shape log slot round
  read_unmoved slot zero = refl
  read_unmoved slot (suc r) =
      let t = first_round shape slot + r in
      each_same shape.n (sent (entry ∷ log) t) (sent log t) (λ p inside. ap (λ xs. chains_of t (slice_get xs t)) (same p))

  pub kept_unmoved : (slot r : ℕ) → slot_kept shape (entry ∷ log) slot r ≡ slot_kept shape log slot r
  kept_unmoved slot r = after_same shape slot (slot_read shape (entry ∷ log) slot) (slot_read shape log slot) r (λ round some within. read_unmoved slot round)

  pub values_unmoved : decided_values shape log ≡ decided_values shape (entry ∷ log)
  values_unmoved =
      values_same (slot_decided shape log) (slot_decided shape (entry ∷ log)) (closed_slots shape (rounds shape log))
      (λ slot below. sym (ap decision (kept_unmoved slot (suc shape.f))))
      ∙ ap (λ xs. values (slot_decided shape (entry ∷ log)) (closed_slots shape (length xs))) (sym (same (shape.n - 1)))

  pub envelope_unmoved : (me : Actor) (value : SlotValue) (t : ℕ) → HasCounts shape log t
      → envelope_with shape me log value ≡ envelope_with shape me (entry ∷ log) value
  envelope_unmoved me value t counts =
      let taken = taken_from (ReplicaNumber (shape.n - 1)) (entry ∷ log) in
      let now : rounds shape (entry ∷ log) ≡ t = ap length (same (shape.n - 1)) ∙ rounds_are shape log t counts in
      ap (λ xs. round_envelope (length xs) (chains_posted shape me log (length xs) value)) (sym (same (shape.n - 1)))
      ∙ ap (round_envelope (length taken)) (sym (chains_same shape entry log t me (length taken) value (taken_all shape log t counts) (omega (arith, now))))

-- an envelope that is taken from a client
pub stands_ask : (r : Replica) (log : List Entry) (client : ℕ) (envelope : Envelope) (asks : List (Option SignedRequest)) → client < length r.asks
    → asks ≡ asks_with r.shape client r.asks envelope → StandsFor r log
    → StandsFor (record r { asks = asks }) (Take (ClientNumber client) envelope ∷ log)
stands_ask r log client envelope asks inside is stands =
    let entry = Take (ClientNumber client) envelope in
    let unmoved : (p : ℕ) → taken_from (ReplicaNumber p) (entry ∷ log) ≡ taken_from (ReplicaNumber p) log = λ p. refl in
    let new = held_with r.shape client (ask_of r.asks client) envelope in
    let at : (c : ℕ) (b : Bool) → (client == c) ≡ b → ask_of (slice_set r.asks client new) c
    ≡ (if b then held_with r.shape c (held r.shape c log) envelope else held r.shape c log) =
    λ c b e. at_client c b e in
    record {
      due_is = stands.due_is;
      counts = record { inside = stands.counts.inside; posts = stands.counts.posts; takes = stands.counts.takes };
      read = λ s i. stands.read s i ∙ sym (kept_unmoved s.shape entry log unmoved s.slot (suc s.closed));
      values_are = stands.values_are ∙ values_unmoved r.shape entry log unmoved;
      asks_are = λ c. ap (λ xs. ask_of xs c) is ∙ at c (client == c) refl;
      posted = λ later. stands.posted later ∙ ap Some (envelope_unmoved r.shape entry log unmoved r.me r.proposed r.round stands.counts);
    }
  where
    at_client : (c : ℕ) (b : Bool) → (client == c) ≡ b → ask_of (slice_set r.asks client (held_with r.shape client (ask_of r.asks client) envelope)) c
        ≡ (if b then held_with r.shape c (held r.shape c log) envelope else held r.shape c log)
    at_client c true e =
        let same : client ≡ c = (Decides-eqb client c).0 e in
        subst (λ k. ask_of (slice_set r.asks client (held_with r.shape client (ask_of r.asks client) envelope)) k ≡ held_with r.shape k (held r.shape k log) envelope) same
        (get_or-set_same r.asks client (held_with r.shape client (ask_of r.asks client) envelope) None inside
        ∙ ap (λ h. held_with r.shape client h envelope) (stands.asks_are client))
    at_client c false e =
        get_or-set_other r.asks client c (held_with r.shape client (ask_of r.asks client) envelope) None
        (λ same. let yes' = (Decides-eqb client c).1 (sym same) in absurd (false≢true (sym e ∙ yes')))
        ∙ stands.asks_are c

-- an envelope that is posted to a client
pub stands_reply : (r : Replica) (log : List Entry) (client : ℕ) (envelope : Envelope) → StandsFor r log
    → StandsFor r (Post (ClientNumber client) envelope ∷ log)
stands_reply r log client envelope stands =
    let entry = Post (ClientNumber client) envelope in
    let unmoved : (p : ℕ) → taken_from (ReplicaNumber p) (entry ∷ log) ≡ taken_from (ReplicaNumber p) log = λ p. refl in
    record {
      due_is = stands.due_is;
      counts = record { inside = stands.counts.inside; posts = stands.counts.posts; takes = stands.counts.takes };
      read = λ s i. stands.read s i ∙ sym (kept_unmoved s.shape entry log unmoved s.slot (suc s.closed));
      values_are = stands.values_are ∙ values_unmoved r.shape entry log unmoved;
      asks_are = stands.asks_are;
      posted = λ later. stands.posted later ∙ ap Some (envelope_unmoved r.shape entry log unmoved r.me r.proposed r.round stands.counts);
    }

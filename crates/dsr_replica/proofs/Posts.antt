-- What is posted for the slots in flight is the round's list of chains by the log, over plain
-- variables.
use Rattle.std.proofs.Common.{◌≡◌, ℕ, suc, ◌+◌, ◌-◌, ◌<◌, ◌≤◌, ◌&&◌, nat_lt, not, true, false, List, [], ◌∷◌, ◌++◌, length, if◌then◌else◌, refl, ap, sym, ◌∙◌, subst, append_assoc, arith}
use Rattle.std.proofs.lemmas.Bool.Decides.{nat_tests}
use Rattle.std.proofs.lemmas.List.{append-nil}
use Rattle.dsr_base.specs.Member.{In, here, there}
use Rattle.dsr_base.proofs.MemberLemmas.{In-all}
use Rattle.dsr_names.specs.Shape.{Shape}
use Rattle.dsr_names.specs.declared.actor.Actor.{Actor}
use Rattle.dsr_names.specs.declared.actor.Actor.TheVariants.{Replica as ReplicaNumber}
use Rattle.dsr_rotation.specs.Calendar.{first_round, last_round, closed_slots}
use Rattle.dsr_rotation.proofs.Lemmas.{begins_at, closed_below}
use Rattle.dsr_chain.specs.Chain.{Chain}
use Rattle.dsr_chain.specs.declared.slot_value.SlotValue.{SlotValue}
use Rattle.dsr_slot.specs.Broadcast.{from_each}
use Rattle.dsr_slot.specs.Conduct.{posted}
use Rattle.dsr_slot.specs.Keeping.{keep}
use Rattle.dsr_slot.specs.SlotState.{SlotState, HasRead}
use Rattle.dsr_envelope.specs.declared.entry.Entry.{Entry}
use Rattle.dsr_envelope.specs.declared.due.Due.TheVariants.{Post as PostTo}
use Rattle.dsr_replica.specs.Conduct.{slot_part, chains_posted, envelope_with}
use Rattle.dsr_replica.specs.Counts.{takes_at}
use Rattle.dsr_replica.specs.Decided.{read_in, slot_read, slot_kept}
use Rattle.dsr_envelope.specs.Envelope.{round_envelope}
use Rattle.dsr_envelope.specs.Log.{taken_from, due}
use Rattle.dsr_replica.specs.Replica.{AreInFlight, Replica, StandsFor}
use Rattle.dsr_replica.specs.Support.Flights.{HasOpenRound, slot_post, posts_of}
use Rattle.dsr_replica.proofs.InFlight.{open_from}
use Rattle.dsr_replica.proofs.Reading.{each_none, none_read}
use Rattle.dsr_replica.proofs.Standing.{facts_of, rounds_are}

-- a round in which a slot is in flight, and one before which it closed
in_flight_test : (t first f closed : ℕ) → first + closed ≡ t → closed ≤ f → (not (nat_lt t first) && not (nat_lt (first + f) t)) ≡ true
in_flight_test t first f closed is few = grind (arith, nat_tests)

past_test : (t first last : ℕ) → last < t → (not (nat_lt t first) && not (nat_lt last t)) ≡ false
past_test t first last over = grind (arith, nat_tests)

-- what is posted for a slot in flight, before anything is taken in the round
part_is : (s : SlotState) (log : List Entry) (t : ℕ) (me : Actor) (value : SlotValue)
    → ((p : ℕ) → p < s.shape.n → length (taken_from (ReplicaNumber p) log) ≡ t) → s.slot + s.closed ≡ t → HasOpenRound s
    → HasRead s (slot_read s.shape log s.slot) → slot_post me value s ≡ slot_part s.shape me log t value s.slot
part_is s log t me value all now few has =
    let first = first_round s.shape s.slot in
    let begins = begins_at s.shape s.slot in
    let here : first + s.closed ≡ t = omega (arith, begins, now) in
    let gone : t - first ≡ s.closed = omega (arith, here) in
    let none : read_in s.shape log (first + s.closed) ≡ [] =
    none_read s.shape log (first + s.closed) (λ p within. let count = all p within in omega (arith, count, here)) in
    let kept : s.kept ≡ slot_kept s.shape log s.slot s.closed = has ∙ ap (keep s.shape s.slot (suc s.closed) (slot_kept s.shape log s.slot s.closed)) none in
    ap (posted s.shape s.slot me value (suc s.closed)) kept
    ∙ (ap (λ k. posted s.shape s.slot me value (suc k) (slot_kept s.shape log s.slot k)) (sym gone)
    ∙ ap (λ b. if b then posted s.shape s.slot me value (suc (t - first)) (slot_kept s.shape log s.slot (t - first)) else [])
    (sym (in_flight_test t first s.shape.f s.closed here few)))

-- for a closed slot nothing is posted
pub none_part : (shape : Shape) (me : Actor) (log : List Entry) (t : ℕ) (value : SlotValue) (slot : ℕ) → slot < closed_slots shape t
    → slot_part shape me log t value slot ≡ []
none_part shape me log t value slot closed =
    let first = first_round shape slot in
    ap (λ b. if b then posted shape slot me value (suc (t - first)) (slot_kept shape log slot (t - first)) else [])
    (past_test t first (last_round shape slot) (closed_below shape slot t closed))

-- the slots in flight, behind those before them
join_posts : (shape : Shape) (t : ℕ) (me : Actor) (value : SlotValue) (part : ℕ → List Chain) (slots : List SlotState) (first : ℕ)
    → AreInFlight shape t slots first → ((s : SlotState) → In s slots → slot_post me value s ≡ part s.slot)
    → from_each first part ++ posts_of me value slots ≡ from_each (suc t) part
join_posts shape t me value part [] first h each = append-nil (from_each first part) ∙ ap (λ k. from_each k part) h
join_posts shape t me value part (s ∷ more) first h each =
    ap (λ xs. from_each first part ++ (xs ++ posts_of me value more)) (each s (here refl) ∙ ap part h.1)
    ∙ (sym (append_assoc (from_each first part) (part first) (posts_of me value more))
    ∙ join_posts shape t me value part more (suc first) h.3 (λ x i. each x (there i)))

-- the chains posted in a round, before anything is taken in it
posts_are : (r : Replica) (log : List Entry) (q : ℕ) (value : SlotValue) → AreInFlight r.shape r.round r.slots (closed_slots r.shape r.round)
    → StandsFor r log → r.next ≡ PostTo q → posts_of r.me value r.slots ≡ chains_posted r.shape r.me log r.round value
posts_are r log q value h stands next =
    let t = r.round in
    let part = slot_part r.shape r.me log t value in
    let now : due r.shape log ≡ PostTo q = sym stands.due_is ∙ next in
    let all : (p : ℕ) → p < r.shape.n → length (taken_from (ReplicaNumber p) log) ≡ t = λ p within. stands.counts.takes p within ∙ ap (λ d. takes_at d t p) now in
    let each : (s : SlotState) → In s r.slots → slot_post r.me value s ≡ part s.slot =
    λ s i.
    let facts = facts_of r.shape t r.slots (closed_slots r.shape t) h s i in
    let few = In-all HasOpenRound s r.slots (open_from r.shape t r.slots (closed_slots r.shape t) h (omega arith)) i in
    part_is s log t r.me value (λ p within. all p (subst (λ (sh : Shape). p < sh.n) facts.0 within)) facts.1 few (stands.read s i)
    ∙ ap (λ sh. slot_part sh r.me log t value s.slot) facts.0 in
    ap (λ xs. xs ++ posts_of r.me value r.slots) (sym (each_none (closed_slots r.shape t) part (λ slot below. none_part r.shape r.me log t value slot below)))
    ∙ join_posts r.shape t r.me value part r.slots (closed_slots r.shape t) h each

-- the envelope of these chains is that of the log
pub envelope_made : (r : Replica) (log : List Entry) (q : ℕ) (value : SlotValue) → AreInFlight r.shape r.round r.slots (closed_slots r.shape r.round)
    → StandsFor r log → r.next ≡ PostTo q → round_envelope r.round (posts_of r.me value r.slots) ≡ envelope_with r.shape r.me log value
envelope_made r log q value h stands next =
    ap (round_envelope r.round) (posts_are r log q value h stands next)
    ∙ ap (λ t. round_envelope t (chains_posted r.shape r.me log t value)) (sym (rounds_are r.shape log r.round stands.counts))

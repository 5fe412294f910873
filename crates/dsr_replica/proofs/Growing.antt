-- A log that goes on says the same about its earlier rounds, and its decided values grow by further
-- ones.
use Rattle.std.proofs.Common.{◌≡◌, ℕ, zero, suc, ◌+◌, ◌-◌, ◌<◌, ◌≤◌, ◌&&◌, not, nat_lt, Bool, true, false, List, [], ◌∷◌, ◌++◌, length, if◌then◌else◌, inl, inr, refl, ap, ap₂, sym, ◌∙◌, arith}
use Rattle.std.specs.Prelude.{slice_get}
use Rattle.std.proofs.lemmas.Bool.{cases_lt}
use Rattle.std.proofs.lemmas.Bool.Decides.{nat_tests}
use Rattle.std.proofs.lemmas.List.{length_push}
use Rattle.dsr_base.specs.Growth.{Extends}
use Rattle.dsr_names.specs.Shape.{Shape}
use Rattle.dsr_names.specs.declared.actor.Actor.{Actor}
use Rattle.dsr_names.specs.declared.actor.Actor.TheVariants.{Replica}
use Rattle.dsr_names.specs.Support.ActorEquality.{actor_eq}
use Rattle.dsr_rotation.specs.Calendar.{first_round, last_round, closed_slots}
use Rattle.dsr_rotation.proofs.Lemmas.{closed_below, closed_stays}
use Rattle.dsr_chain.specs.declared.slot_value.SlotValue.{SlotValue}
use Rattle.dsr_chain.specs.Chain.{Chain}
use Rattle.dsr_slot.specs.Conduct.{posted}
use Rattle.dsr_slot.specs.Decision.{decision}
use Rattle.dsr_slot.proofs.Lemmas.{after_same}
use Rattle.dsr_envelope.specs.declared.envelope.Envelope.{Envelope}
use Rattle.dsr_envelope.specs.declared.entry.Entry.{Entry}
use Rattle.dsr_envelope.specs.declared.entry.Entry.TheVariants.{Post, Take}
use Rattle.dsr_replica.specs.Conduct.{slot_part, chains_posted}
use Rattle.dsr_replica.specs.Decided.{chains_of, sent, read_in, slot_read, slot_kept, slot_decided, values, decided_values}
use Rattle.dsr_envelope.specs.Log.{taken_from, rounds}
use Rattle.dsr_replica.proofs.Joining.{each_same, get_before_if}

-- all envelopes of the first rounds are taken
abbrev pub HasTaken : Shape → List Entry → ℕ → Type 0
HasTaken shape log t = (p : ℕ) → p < shape.n → t ≤ length (taken_from (Replica p) log)

-- what was taken before is at its place
taken_before : (a : Actor) (entry : Entry) (log : List Entry) (t : ℕ) → t < length (taken_from a log)
    → slice_get (taken_from a (entry ∷ log)) t ≡ slice_get (taken_from a log) t
taken_before a (Post to envelope) log t before = refl
taken_before a (Take from envelope) log t before = get_before_if (actor_eq from a) (taken_from a log) envelope t before

-- two lists, each used if a test holds, give the same if they are the same then
guarded : (b : Bool) (x y : List Chain) → (b ≡ true → x ≡ y) → (if b then x else []) ≡ (if b then y else [])
guarded true x y same = same refl
guarded false x y same = refl

-- if something is posted for a slot in a round, the slot has begun by then
has_begun : (round first last : ℕ) → (not (nat_lt round first) && not (nat_lt last round)) ≡ true → first ≤ round
has_begun round first last e = grind (arith, nat_tests)

module _ (shape : Shape) (entry : Entry) (log : List Entry) where
  -- what was read in a round stays the same if all its envelopes are taken
  pub read_same : (t : ℕ) → HasTaken shape log (suc t) → read_in shape (entry ∷ log) t ≡ read_in shape log t
  read_same t taken =
      each_same shape.n (sent (entry ∷ log) t) (sent log t)
      (λ p inside. ap (chains_of t) (taken_before (Replica p) entry log t (taken p inside)))

  slot_read_same : (t slot round : ℕ) → HasTaken shape log t → first_round shape slot + round ≤ t
      → slot_read shape (entry ∷ log) slot round ≡ slot_read shape log slot round
  slot_read_same t slot zero taken within = refl
  slot_read_same t slot (suc r) taken within =
      read_same (first_round shape slot + r) (λ p inside. let all = taken p inside in omega (arith, within, all))

  -- what is kept after closed rounds stays the same
  pub kept_same : (t slot r : ℕ) → HasTaken shape log t → first_round shape slot + r ≤ t
      → slot_kept shape (entry ∷ log) slot r ≡ slot_kept shape log slot r
  kept_same t slot r taken within =
      after_same shape slot (slot_read shape (entry ∷ log) slot) (slot_read shape log slot) r
      (λ round some inside. slot_read_same t slot round taken (omega (arith, within, inside)))

  -- what is decided for a closed slot stays the same
  pub decided_same : (t slot : ℕ) → HasTaken shape log t → last_round shape slot < t
      → slot_decided shape (entry ∷ log) slot ≡ slot_decided shape log slot
  decided_same t slot taken closed = ap decision (kept_same t slot (suc shape.f) taken (omega (arith, closed)))

  -- what is posted for a slot in a round stays the same if all was taken before
  part_same : (t : ℕ) (me : Actor) (round : ℕ) (value : SlotValue) (slot : ℕ) → HasTaken shape log t → round ≤ t
      → slot_part shape me (entry ∷ log) round value slot ≡ slot_part shape me log round value slot
  part_same t me round value slot taken within =
      guarded (not (nat_lt round (first_round shape slot)) && not (nat_lt (last_round shape slot) round))
      (posted shape slot me value (suc (round - first_round shape slot)) (slot_kept shape (entry ∷ log) slot (round - first_round shape slot)))
      (posted shape slot me value (suc (round - first_round shape slot)) (slot_kept shape log slot (round - first_round shape slot)))
      (λ begun. ap (posted shape slot me value (suc (round - first_round shape slot)))
      (kept_same t slot (round - first_round shape slot) taken (omega (arith, within, has_begun round (first_round shape slot) (last_round shape slot) begun))))

  pub chains_same : (t : ℕ) (me : Actor) (round : ℕ) (value : SlotValue) → HasTaken shape log t → round ≤ t
      → chains_posted shape me (entry ∷ log) round value ≡ chains_posted shape me log round value
  chains_same t me round value taken within =
      each_same (suc round) (slot_part shape me (entry ∷ log) round value) (slot_part shape me log round value)
      (λ slot before. part_same t me round value slot taken within)

-- ---- decided values

pub values_same : (of other : ℕ → SlotValue) (count : ℕ) → ((slot : ℕ) → slot < count → of slot ≡ other slot) → values of count ≡ values other count
values_same of other zero same = refl
values_same of other (suc count) same =
    ap₂ (λ v vs. v ∷ vs) (same count (omega arith)) (values_same of other count (λ slot before. same slot (omega (arith, before))))

pub values_grow : (of : ℕ → SlotValue) (count later : ℕ) → count ≤ later → Extends (values of later) (values of count)
values_grow of count zero few = let none : count ≡ 0 = omega (arith, few) in ([], ap (values of) (sym none))
values_grow of count (suc later) few = elim (cases_lt later count) [
  | inl all ↦ let same : suc later ≡ count = omega (arith, few, all) in ([], ap (values of) same)
  | inr before ↦ let more = values_grow of count later before in (of later ∷ more.0, ap (λ vs. of later ∷ vs) more.1)
]

pub rounds_grow : (shape : Shape) (entry : Entry) (log : List Entry) → rounds shape log ≤ rounds shape (entry ∷ log)
rounds_grow shape (Post to envelope) log = omega arith
rounds_grow shape (Take from envelope) log =
    longer (actor_eq from (Replica (shape.n - 1))) (taken_from (Replica (shape.n - 1)) log) envelope
  where
    longer : (b : Bool) (xs : List Envelope) (x : Envelope) → length xs ≤ length (if b then xs ++ x ∷ [] else xs)
    longer true xs x = let count = length_push xs x in omega (arith, count)
    longer false xs x = omega arith

-- decided values stay, and later ones are put before them
pub decided_grow : (shape : Shape) (entry : Entry) (log : List Entry) → HasTaken shape log (rounds shape log)
    → Extends (decided_values shape (entry ∷ log)) (decided_values shape log)
decided_grow shape entry log taken =
    let before = closed_slots shape (rounds shape log) in
    let after = closed_slots shape (rounds shape (entry ∷ log)) in
    let grown = values_grow (slot_decided shape (entry ∷ log)) before after (closed_stays shape (rounds shape log) (rounds shape (entry ∷ log)) (rounds_grow shape entry log)) in
    let same = values_same (slot_decided shape (entry ∷ log)) (slot_decided shape log) before
    (λ slot closed. decided_same shape entry log (rounds shape log) slot taken (closed_below shape slot (rounds shape log) closed)) in
    (grown.0, grown.1 ∙ ap (λ vs. grown.0 ++ vs) same)

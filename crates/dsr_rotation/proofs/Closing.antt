-- The number of closed slots, and which they are; and when slots begin.
use Rattle.std.proofs.Common.{◌≡◌, ℕ, zero, suc, ◌+◌, ◌-◌, ◌<◌, ◌≤◌, ◌==◌, if◌then◌else◌, refl, ap, sym, ◌∙◌, arith}
use Rattle.std.proofs.lemmas.Bool.Decides.{nat_tests}
use Rattle.dsr_names.specs.Shape.{Shape, AgreeButForTraitors}
use Rattle.dsr_rotation.specs.Calendar.{first_round, last_round, closed_slots}

-- one round later one more slot is closed, if the next slot's last round is this one
next_count : (f c t : ℕ) → c ≡ t - f → (if c + f == t then suc c else c) ≡ suc t - f
next_count f c t is_now = grind (arith, nat_tests)

-- all but the last f of the slots that began are closed
pub closed_slots_count : (shape : Shape) (t : ℕ) → closed_slots shape t ≡ t - shape.f
unfolding closed_slots first_round
closed_slots_count shape zero = omega arith
closed_slots_count shape (suc t) = next_count shape.f (closed_slots shape t) t (closed_slots_count shape t)

-- a slot among the closed ones has its last round behind it
pub closed_below : (shape : Shape) (slot t : ℕ) → slot < closed_slots shape t → last_round shape slot < t
unfolding first_round
closed_below shape slot t closed = let count = closed_slots_count shape t in omega (arith, count, closed)

-- a slot that has its last round behind it is among the closed ones
pub closed_above : (shape : Shape) (slot t : ℕ) → last_round shape slot < t → slot < closed_slots shape t
unfolding first_round
closed_above shape slot t over = let count = closed_slots_count shape t in omega (arith, count, over)

-- what is closed stays closed
pub closed_stays : (shape : Shape) (t later : ℕ) → t ≤ later → closed_slots shape t ≤ closed_slots shape later
closed_stays shape t later after =
    let count = closed_slots_count shape t in
    let count_later = closed_slots_count shape later in
    omega (arith, count, count_later, after)

-- a slot begins in the round with its number
pub begins_at : (shape : Shape) (slot : ℕ) → first_round shape slot ≡ slot
unfolding first_round
begins_at shape slot = refl

-- a slot begins no earlier than in the round with its number
pub begins_no_earlier : (shape : Shape) (slot : ℕ) → slot ≤ first_round shape slot
unfolding first_round
begins_no_earlier shape slot = omega arith

-- slots begin in their order
pub begin_in_order : (shape : Shape) (slot later : ℕ) → slot < later → first_round shape slot < first_round shape later
unfolding first_round
begin_in_order shape slot later before = before

-- when a slot begins is the same for all shapes
pub begins_blind : (shape other : Shape) (slot : ℕ) → first_round shape slot ≡ first_round other slot
unfolding first_round
begins_blind shape other slot = refl

-- the number of closed slots does not depend on who is a traitor
pub closed_blind : (shape other : Shape) → AgreeButForTraitors shape other → (t : ℕ) → closed_slots shape t ≡ closed_slots other t
closed_blind shape other agree t =
    closed_slots_count shape t ∙ (ap (λ f. t - f) agree.most_traitors ∙ sym (closed_slots_count other t))

use Rattle.std.proofs.Common.{◌≡◌, ◌==◌, ℕ, ◌<◌, ◌≤◌, true, false, sym, ◌∙◌, ap, subst, arith}
use Rattle.std.specs.Prelude.{IfNone}
use Rattle.std.proofs.lemmas.Bool.Decides.{nat_tests}
use Rattle.dsr_base.specs.Member.{In}
use Rattle.dsr_rotation.specs.Calendar.{closed_slots}
use Rattle.dsr_notes.specs.Closing.{closes}
use Rattle.dsr_notes.proofs.ReadingLemmas.{flight_first, flight_none, flight_closes, open_round}
use Rattle.dsr_notes.proofs.reading.closing_slot.Goals as goal

below : (a b : ℕ) → a < b → (a == b) ≡ false
below a b less = grind (arith, nat_tests)

equal : (a b : ℕ) → a ≤ b → b ≤ a → (a == b) ≡ true
equal a b less more = grind (arith, nat_tests)

pub returns-in_err-oldest-clause-none : goal.returns-in_err-oldest-clause-none
returns-in_err-oldest-clause-none c =
    let r = c.args.loyal.now in
    let none : closes r.shape r.round ≡ false = flight_none r.shape r.round c.in_flight.result.now c.in_flight.ensures.slots c.in_err-oldest.ensures.value in
    subst (λ found. IfNone found (closes r.shape r.round ≡ false)) (sym c.from_residual.ensures) none

pub returns-then-closed_rounds-f-clause-none : goal.returns-then-closed_rounds-f-clause-none
returns-then-closed_rounds-f-clause-none c =
    let r = c.args.loyal.now in
    let s = c.in_ok-oldest.oldest.now in
    let states = c.in_flight.result.now in
    let first = flight_first r.shape r.round states (closed_slots r.shape r.round) c.in_flight.ensures.slots s c.in_ok-oldest.ensures.value in
    let count = c.closed_rounds.ensures.same in
    let most = c.f.ensures.same ∙ ap (λ z. z.f) c.shape.ensures in
    flight_closes r.shape r.round states c.in_flight.ensures.slots s first.0 first.1 ∙ below s.closed s.shape.f (omega (arith, count, most))

pub returns-clause-some : goal.returns-clause-some
returns-clause-some c =
    let r = c.args.loyal.now in
    let s = c.in_ok-oldest.oldest.now in
    let states = c.in_flight.result.now in
    let first = flight_first r.shape r.round states (closed_slots r.shape r.round) c.in_flight.ensures.slots s c.in_ok-oldest.ensures.value in
    let within = open_round r.shape r.round states c.in_flight.ensures.slots s first.0 in
    let count = c.closed_rounds.ensures.same in
    let most = c.f.ensures.same ∙ ap (λ z. z.f) c.shape.ensures in (
      subst (In s) c.in_flight.ensures.same first.0,
      first.1,
      flight_closes r.shape r.round states c.in_flight.ensures.slots s first.0 first.1 ∙ equal s.closed s.shape.f within (omega (arith, count, most)),
    )

use Rattle.std.proofs.Common.{◌≡◌, List, [], suc, length, map, if◌then◌else◌, sym, ◌∙◌, ap, subst}
use Rattle.std.proofs.lemmas.Bool.{true≢false}
use Rattle.dsr_rotation.specs.Calendar.{closed_slots}
use Rattle.dsr_slot.specs.Keeping.{keep}
use Rattle.dsr_replica.specs.Decided.{slot_kept}
use Rattle.dsr_envelope.specs.declared.entry.Entry.{Entry}
use Rattle.dsr_replica.specs.Replica.{AreInFlight, StandsFor}
use Rattle.dsr_notes.specs.Closing.{closes}
use Rattle.dsr_notes.specs.Noting.{Adds}
use Rattle.dsr_notes.specs.declared.note.Note.TheVariants.{Kept}
use Rattle.dsr_notes.proofs.NotingLemmas.{adds_none}
use Rattle.dsr_notes.proofs.ReadingLemmas.{open_round, closing_kept, if_closes}
use Rattle.dsr_notes.proofs.reading.note_kept.Goals as goal
use Rattle.dsr_notes.proofs.reading.note_kept.Goals.{In-Ok}

pub after_reading-requires : goal.after_reading-requires
after_reading-requires c =
    let r = c.args.loyal.now in
    let are = subst (λ states. AreInFlight r.shape r.round states (closed_slots r.shape r.round)) c.in_flight-states.ensures.same c.in_flight-states.ensures.slots in
    record { within = open_round r.shape r.round r.slots are c.in-Some.state.now c.in-Some.ensures.some.0 }

pub returns-in_default-clause-kept : goal.returns-in_default-clause-kept
returns-in_default-clause-kept c log stands =
    let r = c.args.loyal.now in
    let slot = closed_slots r.shape r.round in
    let n = c.args.notes.now in
    subst (λ b. Adds n n (if b then map Kept (keep r.shape slot (suc r.shape.f) (slot_kept r.shape log slot (suc r.shape.f)) c.args.chains.now) else []))
    (sym c.in_default.ensures.none) (adds_none n)

pub returns-in_default-clause-count : goal.returns-in_default-clause-count
returns-in_default-clause-count c log stands closing whole = absurd (true≢false (sym closing ∙ c.in_default.ensures.none))

kept_is : (c : In-Ok) (log : List Entry) → StandsFor c.args.loyal.now log
    → c.in-Ok.closing.kept ≡ keep c.args.loyal.now.shape (closed_slots c.args.loyal.now.shape c.args.loyal.now.round) (suc c.args.loyal.now.shape.f)
    (slot_kept c.args.loyal.now.shape log (closed_slots c.args.loyal.now.shape c.args.loyal.now.round) (suc c.args.loyal.now.shape.f)) c.args.chains.now
kept_is c log stands =
    let r = c.args.loyal.now in
    let are = subst (λ states. AreInFlight r.shape r.round states (closed_slots r.shape r.round)) c.in_flight-states.ensures.same c.in_flight-states.ensures.slots in
    let now = sym c.round-round.ensures.same ∙ c.round-round.ensures.stands log stands in
    let is = c.in-Some.ensures.some in
    closing_kept r log stands now are c.in-Some.state.now c.in-Ok.closing c.args.chains.now is.0 is.1 is.2 c.in-Ok.ensures

pub returns-in-Ok-clause-kept : goal.returns-in-Ok-clause-kept
returns-in-Ok-clause-kept c log stands =
    let r = c.args.loyal.now in
    subst (Adds c.args.notes.now c.note_each.new.notes)
    (ap (map Kept) (kept_is (goal.at.returns-in-Ok-clause-kept c).In-Ok log stands) ∙ if_closes (closes r.shape r.round) _ c.in-Some.ensures.some.2)
    c.note_each.ensures.kept

pub returns-in-Ok-clause-count : goal.returns-in-Ok-clause-count
returns-in-Ok-clause-count c log stands closing whole =
    c.note_each.ensures.count ∙ ap length (kept_is (goal.at.returns-in-Ok-clause-count c).In-Ok log stands)

pub returns-in-Err-clause-kept : goal.returns-in-Err-clause-kept
returns-in-Err-clause-kept c log stands whole = absurd (true≢false (sym c.break_off.ensures ∙ whole))

pub returns-in-Err-clause-count : goal.returns-in-Err-clause-count
returns-in-Err-clause-count c log stands closing whole = absurd (true≢false (sym c.break_off.ensures ∙ whole))

use Rattle.std.proofs.Common.{◌≡◌, ◌≢◌, ◌<◌, [], suc, length, rules, refl, sym, ◌∙◌, ap, subst}
use Rattle.std.proofs.lemmas.Bool.{true≢false}
use Rattle.std.proofs.lemmas.List.{length-reverse}
use Rattle.std.proofs.lemmas.Option.{same_Some}
use Rattle.dsr_names.specs.declared.actor.Actor.TheVariants.{Replica}
use Rattle.dsr_history.specs.History.{acted}
use Rattle.dsr_envelope.specs.Log.{due, rounds}
use Rattle.dsr_envelope.specs.declared.due.Due.TheVariants.{Take as TakeFrom}
use Rattle.dsr_replica.specs.Counts.{HasCounts, IsInside}
use Rattle.dsr_replica.specs.Decided.{decided_requests}
use Rattle.dsr_run.specs.Step.{log_of}
use Rattle.dsr_notes.specs.Support.Reading.{AddsLast, AddsRead}
use Rattle.dsr_notes.specs.declared.rest.Rest.TheVariants.{Nothing}
use Rattle.dsr_notes.proofs.DoneLemmas.{last_noted, read_noted, undue, unheld, unloyal}
use Rattle.dsr_notes.proofs.reading.note_reading.Goals as goal
use Rattle.dsr_notes.proofs.reading.note_reading.Goals.{Else-ne}

next_is : (c : Else-ne) → c.in-Ok.loyal.now.next ≡ TakeFrom c.args.from
next_is c = search (rules, c.ne.ensures, c.if-ne.false, c.due.ensures.same)

pub in_box-requires-clause-from : goal.in_box-requires-clause-from
in_box-requires-clause-from c =
    let own = c.in-Ok.loyal.now in
    let plays = c.in-Ok.ensures.plays in
    subst (λ s. c.args.from < s.n) plays.shape_is
    (subst (IsInside own.shape.n) (sym plays.stands.due_is ∙ next_is (goal.at.in_box-requires-clause-from c).Else-ne) plays.stands.counts.inside)

pub in_box-requires-clause-to : goal.in_box-requires-clause-to
in_box-requires-clause-to c = (c.in-Ok.ensures.when.0 refl).0

pub note_envelope-requires : goal.note_envelope-requires
note_envelope-requires c = next_is (goal.at.note_envelope-requires c).Else-ne

pub returns-in_default : goal.returns-in_default
returns-in_default c =
    let w = c.args.stage.now in
    unloyal w.shape w.run c.args.replica c.args.notes.now c.requires (Replica c.args.from)
    (λ loyal. absurd (true≢false (sym (c.in_default.ensures.when.1 loyal))))

pub returns-then-ne : goal.returns-then-ne
returns-then-ne c =
    let w = c.args.stage.now in
    let own = c.in-Ok.loyal.now in
    let plays = c.in-Ok.ensures.plays in
    let other : own.next ≢ TakeFrom c.args.from = search (rules, c.ne.ensures, c.if-ne.true, c.due.ensures.same) in
    undue w.shape w.run c.args.replica c.args.notes.now c.requires c.args.from
    (λ e. other (plays.stands.due_is ∙ ap (λ s. due s (log_of w.run (Replica c.args.replica))) plays.shape_is ∙ e))

pub returns-in_default-in_box : goal.returns-in_default-in_box
returns-in_default-in_box c =
    let w = c.args.stage.now in
    unheld w.shape w.run (Replica c.args.replica) (Replica c.args.from) c.args.notes.now Nothing c.in_default-in_box.ensures

pub returns-in-None : goal.returns-in-None
returns-in-None c =
    let w = c.args.stage.now in
    let log = log_of w.run (Replica c.args.replica) in
    let own = c.in-Ok.loyal.now in
    let plays = c.in-Ok.ensures.plays in
    let old = c.args.notes.now in
    let new = c.note_envelope.new.notes in
    let is = c.in-None.ensures.none in
    read_noted w.shape w.run c.args.replica c.args.from old new c.requires (c.in-Ok.ensures.when.0 refl)
    (subst (λ s. suc c.args.from ≢ s.n) plays.shape_is is.0)
    (λ x there. subst (λ s. AddsRead s log x old new []) plays.shape_is
    (subst (λ y. AddsRead own.shape log y old new []) (c.envelope.ensures ∙ same_Some c.in-Some.letter.now x (c.in-Some.ensures ∙ there))
    (is.1 log plays.stands)))

pub returns-in-Some-note_envelope : goal.returns-in-Some-note_envelope
returns-in-Some-note_envelope c =
    let w = c.args.stage.now in
    let log = log_of w.run (Replica c.args.replica) in
    let own = c.in-Ok.loyal.now in
    let plays = c.in-Ok.ensures.plays in
    let old = c.args.notes.now in
    let new = c.note_envelope.new.notes in
    let kept = c.in-Some-note_envelope.kept in
    let is = c.in-Some-note_envelope.ensures.last in
    let now : own.round ≡ rounds own.shape log = sym c.round.ensures.same ∙ c.round.ensures.stands log plays.stands in
    last_noted w.shape w.run c.args.replica c.args.from old new c.requires (c.in-Ok.ensures.when.0 refl) c.round.result kept (length c.history.result.now)
    (subst (λ s. suc c.args.from ≡ s.n) plays.shape_is is.0)
    (subst (λ s. HasCounts s log (rounds s log)) plays.shape_is (subst (HasCounts own.shape log) now plays.stands.counts))
    (c.round.ensures.stands log plays.stands ∙ ap (λ s. rounds s log) plays.shape_is)
    (ap length (c.history.ensures.stands log plays.stands) ∙ length-reverse (acted (decided_requests own.shape log))
    ∙ ap (λ s. length (acted (decided_requests s log))) plays.shape_is)
    (λ x there. subst (λ s. AddsLast s log c.args.from x old new kept) plays.shape_is
    (subst (λ y. AddsLast own.shape log c.args.from y old new kept) (c.envelope.ensures ∙ same_Some c.in-Some.letter.now x (c.in-Some.ensures ∙ there))
    (is.1 log plays.stands)))

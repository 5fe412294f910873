use Rattle.std.proofs.Common.{[], ◌++◌, refl, sym, subst, add-one}
use Rattle.dsr_notes.specs.Unproposed.{IsNoteOf, AreWaiting}
use Rattle.dsr_notes.proofs.NotingLemmas.{adds_none, adds_then}
use Rattle.dsr_notes.proofs.unproposed.note_waiting.Goals as goal

pub loop-number-init : goal.loop-number-init
loop-number-init c log stands = ([], refl, adds_none c.args.notes.now)

pub loop-number-preserved : goal.loop-number-preserved
loop-number-preserved c log stands =
    let shape = c.args.loyal.now.shape in
    let before = c.loop-number.invariant log stands in
    let last = c.note_client.ensures log stands in
    let note = subst (λ client. IsNoteOf shape log client last.0) c.of.ensures last.1 in (
      before.0 ++ last.0,
      subst (λ k. AreWaiting shape log k (before.0 ++ last.0)) (sym (add-one c.loop-number.number)) (before.0, last.0, before.1, note, refl),
      adds_then c.args.notes.now c.loop-number.notes c.note_client.new.notes before.0 last.0 before.2 last.2,
    )

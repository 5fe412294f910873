use Rattle.std.proofs.Common.{◌++◌, ◌∷◌, [], refl, ap, sym, subst, ◌∙◌, append_assoc, arith}
use Rattle.std.proofs.lemmas.Bool.{true≢false}
use Rattle.std.proofs.lemmas.List.{append-nil, take_all}
use Rattle.dsr_notes.specs.Reading.{AreFates}
use Rattle.dsr_notes.specs.declared.note.Note.TheVariants.{Chain}
use Rattle.dsr_notes.proofs.ReadingLemmas.{fates_next}
use Rattle.dsr_notes.proofs.reading.note_fates.Goals as goal

pub loop-place-init : goal.loop-place-init
loop-place-init c log stands whole = (whole, [], refl, sym (append-nil c.args.notes.now.items))

pub loop-place-preserved : goal.loop-place-preserved
loop-place-preserved c log stands whole = elim c.match-fate_of.branch [
  | goal.in-Ok w ↦
      let added = w.add.ensures (sym (ap (λ notes. notes.is_broken) w.notes-is) ∙ whole) in
      let before = c.loop-place.invariant log stands added.0 in
      let place = c.loop-place.place in
      let fate = w.in-Ok.fate in
      let note = Chain place w.slot.result fate in (
        before.0,
        before.1 ++ note ∷ [],
        fates_next c.args.loyal.now.shape log c.args.chains.now before.1 place w.slot.result c.index-chains-place.result fate before.2 (omega arith)
            c.index-chains-place.is w.slot.ensures (w.in-Ok.ensures log stands),
        ap (λ notes. notes.items) w.notes-is ∙ (added.1 ∙ (ap (λ xs. xs ++ note ∷ []) before.3 ∙ append_assoc c.args.notes.now.items before.1 (note ∷ []))),
      )
  | goal.in-Err w ↦ absurd (true≢false (sym w.break_off.ensures ∙ (sym (ap (λ notes. notes.is_broken) w.notes-is) ∙ whole)))
]

pub returns : goal.returns
returns c log stands whole =
    let noted = c.loop-place.invariant log stands whole in
    let all = take_all c.loop-place.place c.args.chains.now c.loop-place-test.false in
    (noted.0, noted.1, subst (λ chains. AreFates c.args.loyal.now.shape log [] chains noted.1) all noted.2, noted.3)

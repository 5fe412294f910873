use Rattle.std.proofs.Common.{[], ◌∷◌, inl, inr, refl, ap, sym}
use Rattle.dsr_notes.specs.declared.note.Note.TheVariants.{Unproposed}
use Rattle.dsr_notes.proofs.NotingLemmas.{adds_none}
use Rattle.dsr_notes.proofs.unproposed.note_client.Goals as goal

pub returns-in-Some : goal.returns-in-Some
returns-in-Some c log stands =
    let request = c.in-Some.request in
    let note = ap (λ slot. Unproposed slot request ∷ []) (sym (c.requires log stands)) in
    (Unproposed c.args.slot request ∷ [], inl (request, c.in-Some.ensures.some log stands, note), c.add.ensures)

pub returns-in_default : goal.returns-in_default
returns-in_default c log stands = ([], inr (c.in_default.ensures.none log stands, refl), adds_none c.args.notes.now)

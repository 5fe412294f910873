use Rattle.std.proofs.Common.{◌≡◌, None, rules, sym, ap₂, subst}
use Rattle.dsr_run.specs.Step.{log_of}
use Rattle.dsr_notes.specs.Noting.{Adds}
use Rattle.dsr_notes.specs.Support.Rest.{rest_notes}
use Rattle.dsr_notes.proofs.NotingLemmas.{adds_none}
use Rattle.dsr_notes.proofs.rest.note_rest.Goals as goal

pub returns-in-Nothing : goal.returns-in-Nothing
returns-in-Nothing c =
    let w = c.args.stage.now in
    subst (λ rest. Adds c.args.notes.now c.args.notes.now (rest_notes w.shape (log_of w.run) c.args.reply rest)) (sym c.in-Nothing.is) (adds_none c.args.notes.now)

pub returns-in_default : goal.returns-in_default
returns-in_default c =
    let w = c.args.stage.now in
    let none : c.args.reply ≡ None = search rules in
    subst (Adds c.args.notes.now c.args.notes.now) (sym (ap₂ (rest_notes w.shape (log_of w.run)) none c.in-Reply.is)) (adds_none c.args.notes.now)

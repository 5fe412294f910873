use Rattle.std.proofs.Common.{reverse, ap, sym, ◌∙◌}
use Rattle.std.proofs.lemmas.List.{reverse-reverse}
use Rattle.dsr_mail.proofs.Reposting.{newest_post}
use Rattle.dsr_mail.proofs.seat.Seat.posted_last.Goals as goal

pub returns-in-Some-Post-Replica-default : goal.returns-in-Some-Post-Replica-default
returns-in-Some-Post-Replica-default c =
    let found = c.in-Some-Post-Replica-default in
    let same = c.deref.ensures.value ∙ (sym (reverse-reverse c.self.inside.entries.items) ∙ ap reverse c.self.invariant.1) in
    let newest =
    newest_post c.self.inside.pass.log _ _ _ _ _ _ _ same c.last.ensures.value found.is found.field-0-is found.field-0-0-is c.envelope.ensures in
    (found.field-0-0-0, newest.0, rw (← c.self.view_is) newest.1)

use Rattle.std.proofs.Common.{◌∙◌}
use Rattle.dsr_run.proofs.Lemmas.{run_before}
use Rattle.dsr_boxes.proofs.Ordering.{places_rise_after}
use Rattle.dsr_mail.proofs.Closing.{own_logs}
use Rattle.dsr_mail.proofs.mail.Mail.close_after.Goals as goal

pub returns-clause-own : goal.returns-clause-own
returns-clause-own c =
    let all = c.return_all-returned.ensures in
    own_logs c.joined.result _ _ _ _ _ (c.joined.ensures.shape ∙ c.shape.ensures) c.joined.ensures.lists all.replicas all.traitors all.clients

pub returns-clause-after : goal.returns-clause-after
returns-clause-after c =
    rw (← c.self.view_is, c.joined.ensures.lists, c.joined.ensures.shape ∙ c.shape.ensures, ← c.return_all-returned.ensures.logs) c.close_after.ensures.run

pub returns-clause-places : goal.returns-clause-places
returns-clause-places c first second reply later own response grown not_invoked answered =
    let after = returns-clause-after c in
    let few = rw (c.shape.ensures, c.self.view_is) at c.n-n.ensures.allowed.few_traitors in
    places_rise_after _ _ _ own first second reply later few (run_before _ after.run _ after.is after.grown) response grown
    (λ ask same posted. not_invoked (ask, same, posted)) after answered

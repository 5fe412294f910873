use Rattle.std.proofs.Common.{◌∙◌}
use Rattle.dsr_mail.proofs.Closing.{own_logs}
use Rattle.dsr_mail.proofs.mail.Mail.close.Goals as goal

pub returns-clause-own : goal.returns-clause-own
returns-clause-own c =
    let all = c.return_all-returned.ensures in
    own_logs c.joined.result _ _ _ _ _ (c.joined.ensures.shape ∙ c.shape-shape.ensures) c.joined.ensures.lists all.replicas all.traitors all.clients

use Rattle.dsr_mail.proofs.Reposting.{posted_last}
use Rattle.dsr_mail.proofs.loyal.Loyal.posted_before.Goals as goal

pub returns-in-Replica : goal.returns-in-Replica
returns-in-Replica c =
    rw (← c.self.view_is) (posted_last c.self.inside.seat.shape (rw (← c.shape.ensures) c.n-n.ensures.allowed) _ _ _ _ c.args._pick.now _
    c.self.invariant.keeps c.in-Replica.is (rw c.self.view_is c.requires) c.posted_last.ensures)

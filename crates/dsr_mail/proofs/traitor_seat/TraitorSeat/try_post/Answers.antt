use Rattle.dsr_mail.proofs.Planting.{after_post}
use Rattle.dsr_mail.proofs.traitor_seat.TraitorSeat.try_post.Goals as goal

pub invariant_of-self-2 : goal.invariant_of-self-2
invariant_of-self-2 c =
    let was = c.self.invariant in
    rw c.in-Ok-post.ensures.posted (record { own = was.own; traitor = was.traitor; knows = after_post _ _ _ _ was.knows })

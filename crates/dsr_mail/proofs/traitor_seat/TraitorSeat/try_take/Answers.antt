use Rattle.dsr_mail.proofs.Planting.{after_take}
use Rattle.dsr_mail.proofs.traitor_seat.TraitorSeat.try_take.Goals as goal

pub invariant_of-self-2 : goal.invariant_of-self-2
invariant_of-self-2 c =
    let was = c.self.invariant in
    let learned = rw c.room.ensures.same at c.in-Ok-learn.ensures.learned in
    rw c.in-Ok-take.ensures.taken (record { own = was.own; traitor = was.traitor; knows = after_take _ _ _ _ _ was.knows learned })

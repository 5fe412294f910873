use Rattle.std.proofs.Common.{sym, subst}
use Rattle.dsr_boxes.specs.Pass.{Pass}
use Rattle.dsr_mail.specs.Asked.{AreAsked}
use Rattle.dsr_mail.specs.Loyal.{IsClientActor}
use Rattle.dsr_mail.proofs.Asking.{asked_told}
use Rattle.dsr_mail.proofs.client_seat.ClientSeat.try_tell.Goals as goal

pub invariant_of-self-2 : goal.invariant_of-self-2
invariant_of-self-2 c =
    let was = c.self.invariant in
    subst (λ (s : Pass). IsClientActor s.actor × AreAsked s.shape s.log c.self.inside.asked) (sym c.in-Ok.ensures.ok) (was.0, asked_told _ _ _ _ _ was.1)

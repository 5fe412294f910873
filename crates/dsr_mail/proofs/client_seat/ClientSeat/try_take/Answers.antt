use Rattle.std.proofs.Common.{sym, subst}
use Rattle.dsr_boxes.specs.Pass.{Pass}
use Rattle.dsr_mail.specs.Asked.{AreAsked}
use Rattle.dsr_mail.specs.Loyal.{IsClientActor}
use Rattle.dsr_mail.proofs.Asking.{asked_taken}
use Rattle.dsr_mail.proofs.client_seat.ClientSeat.try_take.Goals as goal

pub invariant_of-self-2 : goal.invariant_of-self-2
invariant_of-self-2 c =
    let taken = c.in-Ok.ensures.ok in
    let was = c.self.invariant in
    subst (λ (s : Pass). IsClientActor s.actor × AreAsked s.shape s.log c.note_reply.new.self) (sym taken.2)
    (was.0, rw c.note_reply.ensures (asked_taken _ _ _ _ c.args.from taken.0 _ was.0 was.1 taken.3))

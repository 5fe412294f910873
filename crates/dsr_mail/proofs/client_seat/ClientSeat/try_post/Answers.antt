use Rattle.std.proofs.Common.{sym, subst}
use Rattle.dsr_boxes.specs.Pass.{Pass}
use Rattle.dsr_mail.specs.Asked.{AreAsked}
use Rattle.dsr_mail.specs.Loyal.{IsClientActor}
use Rattle.dsr_mail.proofs.Asking.{asked_posted}
use Rattle.dsr_mail.proofs.client_seat.ClientSeat.try_post.Goals as goal

pub invariant_of-self-2 : goal.invariant_of-self-2
invariant_of-self-2 c =
    let posted = c.in-Ok.ensures.ok in
    let was = c.self.invariant in
    subst (λ (s : Pass). IsClientActor s.actor × AreAsked s.shape s.log c.note_post.new.self) (sym posted.2)
    (was.0, rw c.note_post.ensures.noted (asked_posted _ _ _ _ _ c.args.pick _ c.note_post.ensures.long was.0 c.try_post.ensures.keeps was.1 posted.1))

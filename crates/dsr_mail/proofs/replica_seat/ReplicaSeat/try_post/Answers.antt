use Rattle.dsr_mail.proofs.ServingLemmas.{unanswered_posted, picked_posted}
use Rattle.dsr_mail.proofs.replica_seat.ReplicaSeat.try_post.Goals as goal

pub invariant_of-self-2 : goal.invariant_of-self-2
invariant_of-self-2 c =
    let seat = c.self.inside.loyal in
    let posted = c.in-Ok.ensures.ok in
    let was = c.self.invariant in
    rw (posted.2, c.note_post.ensures.noted, c.note_post.ensures.picked) (
      was.0,
      unanswered_posted _ _ c.note_post.ensures.long was.1 c.args.to posted.0,
      picked_posted seat.shape seat.log _ c.args.to c.args.pick _ _ was.0 posted.1 was.2,
    )

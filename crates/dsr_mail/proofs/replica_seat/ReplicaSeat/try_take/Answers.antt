use Rattle.dsr_mail.proofs.ServingLemmas.{unanswered_taken}
use Rattle.dsr_mail.proofs.replica_seat.ReplicaSeat.try_take.Goals as goal

pub invariant_of-self-2 : goal.invariant_of-self-2
invariant_of-self-2 c =
    let was = c.self.invariant in
    let taken = c.in-Ok.ensures.ok in
    rw (taken.2, c.note_take.ensures.noted, c.note_take.ensures.picked)
    (was.0, unanswered_taken _ _ c.note_take.ensures.long was.1 c.args.from taken.0, was.2)

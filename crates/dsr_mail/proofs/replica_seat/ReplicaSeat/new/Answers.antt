use Rattle.dsr_mail.proofs.ServingLemmas.{none_unanswered}
use Rattle.dsr_mail.proofs.replica_seat.ReplicaSeat.new.Goals as goal

pub invariant_of-result : goal.invariant_of-result
invariant_of-result c = rw (c.requires.first, c.none.ensures.marks) (c.requires.replica, none_unanswered, c.none.ensures.picked)

use Rattle.std.proofs.Common.{subst}
use Rattle.dsr_replica.specs.Support.ReplicaFields.{IsAfterTake}
use Rattle.dsr_replica.proofs.Standing.{stands_taken}
use Rattle.dsr_replica.proofs.replica.Replica.taken.Goals as goal

pub returns-clause-stands : goal.returns-clause-stands
returns-clause-stands c = λ log stands.
    let after = c.go_on_after.new.self in
    stands_taken c.args.self.now after log c.args.from c.args.envelope c.read.ensures.in_flight stands c.requires.due
    (subst (λ r. IsAfterTake r c.args.from after) c.read.ensures.read c.go_on_after.ensures.after)

use Rattle.std.proofs.Common.{◌∷◌, sym, subst}
use Rattle.dsr_names.specs.declared.actor.Actor.TheVariants.{Replica as ReplicaNumber}
use Rattle.dsr_envelope.specs.declared.entry.Entry.TheVariants.{Post}
use Rattle.dsr_replica.specs.Replica.{StandsFor, value_for}
use Rattle.dsr_replica.proofs.Choosing.{stands_chosen, is_some}
use Rattle.dsr_replica.proofs.replica.Replica.posted.Goals as goal

pub returns-clause-stands : goal.returns-clause-stands
returns-clause-stands c =
    let before = c.args.self.now in
    let found = is_some (value_for before c.args.to c.args.pick) c.requires.some in
    λ log envelope stands given. subst (λ r. StandsFor r (Post (ReplicaNumber c.args.to) envelope ∷ log)) (sym (c.post.ensures found.0 found.1))
    (stands_chosen before log c.args.to c.args.pick found.0 envelope stands found.1 given)

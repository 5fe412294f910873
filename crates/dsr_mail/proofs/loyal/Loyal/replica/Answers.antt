use Rattle.std.proofs.Common.{◌≡◌, ℕ, refl}
use Rattle.std.proofs.lemmas.Bool.{both_ways}
use Rattle.dsr_names.specs.declared.actor.Actor.{Actor}
use Rattle.dsr_names.specs.declared.actor.Actor.TheVariants.{Replica, Client}
use Rattle.dsr_node.specs.Node.{IsReplicaNumber}
use Rattle.dsr_mail.proofs.loyal.Loyal.replica.Goals as goal

number_of : (a : Actor) → IsReplicaNumber a → (p : ℕ) × (a ≡ Replica p)
number_of (Replica p) is = (p, refl)
number_of (Client c) is = elim is [ ]

pub unreachable-requires : goal.unreachable-requires
unreachable-requires c =
    let me = number_of c.self.inside.seat.actor (rw c.self.view_is c.requires) in
    both_ways _ (rw me.1 at c.self.invariant.honest) (c.in_default.ensures.traitor _ _ _ (rw me.1 at c.self.invariant.plays))

pub returns : goal.returns
returns c =
    let me = number_of c.self.inside.seat.actor (rw c.self.view_is c.requires) in
    let plays = c.in-Some.ensures.loyal _ _ _ (rw me.1 at c.self.invariant.plays) in
    rw (← c.self.view_is) (record { number = me.0; is = me.1; plays = plays })

use Rattle.std.proofs.Common.{◌≡◌, ℕ, refl}
use Rattle.dsr_names.specs.declared.actor.Actor.{Actor}
use Rattle.dsr_names.specs.declared.actor.Actor.TheVariants.{Replica, Client}
use Rattle.dsr_node.proofs.Lemmas.{client_plays}
use Rattle.dsr_mail.specs.Loyal.{IsClientActor}
use Rattle.dsr_mail.proofs.loyal.Loyal.client.Goals as goal

number_of : (a : Actor) → IsClientActor a → (c : ℕ) × (a ≡ Client c)
number_of (Replica p) is = elim is [ ]
number_of (Client c) is = (c, refl)

pub returns : goal.returns
returns c =
    let me = number_of c.self.inside.seat.actor (rw c.self.view_is c.requires) in
    let plays = rw me.1 at c.self.invariant.plays in
    rw (← c.self.view_is) (record { number = me.0; is = me.1; plays = plays; client = client_plays _ _ _ _ plays })

-- How a party represents the log of its actor (this project).
use Rattle.std.specs.Prelude.{◌≡◌, ℕ, true, false, List, Option, None, Some, reverse}
use Rattle.dsr_names.specs.Shape.{Shape, is_traitor, IsActor}
use Rattle.dsr_names.specs.declared.actor.Actor.{Actor}
use Rattle.dsr_names.specs.declared.actor.Actor.TheVariants.{Replica as ReplicaNumber, Client as ClientNumber}
use Rattle.dsr_envelope.specs.declared.entry.Entry.{Entry}
use Rattle.dsr_envelope.specs.declared.envelope.Envelope.{Envelope}
use Rattle.dsr_envelope.specs.declared.pick.Pick.{Pick}
use Rattle.dsr_envelope.specs.declared.pick.Pick.TheVariants.{Plain, From}
use Rattle.dsr_envelope.specs.Limits.{IsEnvelope}
use Rattle.dsr_envelope.specs.Pick.{IsPick}
use Rattle.dsr_replica.specs.Conduct.{envelope_to}
use Rattle.dsr_replica.specs.Replica.{Allows, Replica, StandsFor}
use Rattle.dsr_client.specs.Client.{StandsFor as StandsForClient}
use Rattle.dsr_client.specs.State.{accepted}
use Rattle.dsr_check.specs.declared.customer.Customer.{Customer}
use Rattle.dsr_check.specs.declared.party.Party.{Party}
use Rattle.dsr_check.specs.declared.party.Party.TheVariants.{Loyal, Traitor, Client}

-- the choice of these clients; without clients, the plain one
abbrev pub choice_by : Option (List ℕ) → Pick
choice_by None = Plain
choice_by (Some clients) = From clients

-- the replica is this loyal one, and represents the log
pub record PlaysReplica (shape : Shape) (p : ℕ) (log : List Entry) (r : Replica) : Type 0 where
  pub honest : is_traitor shape p ≡ false
  pub me : r.me ≡ ReplicaNumber p
  pub shape_is : r.shape ≡ shape
  pub stands : StandsFor r log

-- the client is this one, represents the log, and has noted what it accepted
pub record PlaysClient (shape : Shape) (c : ℕ) (log : List Entry) (x : Customer) : Type 0 where
  pub me : x.client.me ≡ c
  pub shape_is : x.client.shape ≡ shape
  pub stands : StandsForClient x.client log
  pub noted : x.accepted.items ≡ reverse (accepted shape log)

-- the party plays the actor, whose log this is
abbrev pub Plays : Shape → Actor → List Entry → Party → Type 0
Plays shape (ReplicaNumber p) log (Loyal r) = PlaysReplica shape p log r
Plays shape (ReplicaNumber p) log Traitor = is_traitor shape p ≡ true
Plays shape (ReplicaNumber p) log (Client x) = ⊥
Plays shape (ClientNumber c) log (Loyal r) = ⊥
Plays shape (ClientNumber c) log Traitor = ⊥
Plays shape (ClientNumber c) log (Client x) = PlaysClient shape c log x

-- the party plays some actor of a shape, the other one is an actor of that shape too, and the
-- envelope is within the limits
pub record CanGet (party : Party) (me from : Actor) (envelope : Envelope) : Type 0 where
  pub shape : Shape
  pub log : List Entry
  pub plays : Plays shape me log party
  pub other : IsActor shape from
  pub within : IsEnvelope envelope

-- what the replica posts to this replica next, by any choice, is within the limits
pub record HasWithin (r : Replica) (q : ℕ) : Type 0 where
  pub log : List Entry
  pub stands : StandsFor r log
  pub within : (pick : Pick) (x : Envelope) → IsPick pick → envelope_to r.shape r.me log q pick ≡ Some x → IsEnvelope x

-- so is what the party posts to this replica next, if it is a loyal replica
abbrev pub PostsWithin : Party → ℕ → Type 0
PostsWithin (Loyal r) q = HasWithin r q
PostsWithin Traitor q = Unit {0}
PostsWithin (Client x) q = Unit {0}

-- the party is a loyal replica that may post to this replica by this choice
abbrev pub CanPost : Party → ℕ → Pick → Type 0
CanPost (Loyal r) q pick = Allows r q pick
CanPost Traitor q pick = ⊥
CanPost (Client x) q pick = ⊥

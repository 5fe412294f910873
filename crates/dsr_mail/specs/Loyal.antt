-- How a loyal actor's node represents its seat (this project).
use Rattle.std.specs.Prelude.{◌≡◌, ℕ, false}
use Rattle.dsr_names.specs.declared.actor.Actor.{Actor}
use Rattle.dsr_names.specs.declared.actor.Actor.TheVariants.{Replica, Client}
use Rattle.dsr_replica.specs.Replica.{Replica as ReplicaValue}
use Rattle.dsr_node.specs.Conduct.{is_traitor_of}
use Rattle.dsr_node.specs.Node.{Plays, PlaysReplica, IsClient}
use Rattle.dsr_node.specs.declared.node.Node.{Node}
use Rattle.dsr_boxes.specs.Pass.{Pass}
use Rattle.dsr_mail.specs.Seats.{KeepsLog}

-- the actor is not a traitor, the node plays it over its log, and the log keeps the actor's protocol
pub record IsLoyalSeat (seat : Pass) (node : Node) : Type 0 where
  pub plays : Plays seat.shape seat.actor seat.log node
  pub honest : is_traitor_of seat.shape seat.actor ≡ false
  pub keeps : KeepsLog seat.shape seat.actor seat.log

-- the replica is the one of the seat
pub record IsReplicaOf (seat : Pass) (replica : ReplicaValue) : Type 0 where
  pub number : ℕ
  pub is : seat.actor ≡ Replica number
  pub plays : PlaysReplica seat.shape number seat.log replica

-- the actor is a client
abbrev pub IsClientActor : Actor → Type 0
IsClientActor (Replica p) = ⊥
IsClientActor (Client c) = Unit {0}

-- the node is the one of the client's seat
pub record IsClientOf (seat : Pass) (node : Node) : Type 0 where
  pub number : ℕ
  pub is : seat.actor ≡ Client number
  pub plays : Plays seat.shape (Client number) seat.log node
  pub client : IsClient node

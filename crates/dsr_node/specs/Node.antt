-- How an actor of any kind represents its log, and what it may do by it (this project).
use Rattle.std.specs.Prelude.{◌≡◌, ◌≢◌, ℕ, ◌<◌, true, false, List, ◌∷◌, Option, None, Some, reverse, if◌then◌else◌}
use Rattle.std.specs.Option.{is_none, option_map}
use Rattle.dsr_names.specs.Shape.{Shape, is_traitor, IsActor}
use Rattle.dsr_names.specs.declared.actor.Actor.{Actor}
use Rattle.dsr_names.specs.declared.actor.Actor.TheVariants.{Replica as ReplicaNumber, Client as ClientNumber}
use Rattle.dsr_names.specs.declared.refusal.Refusal.{Refusal}
use Rattle.dsr_names.specs.declared.refusal.Refusal.TheVariants.{NotDue, Exhausted}
use Rattle.dsr_ledger.specs.declared.reply.Reply.{Reply as AReply}
use Rattle.dsr_chain.specs.declared.signed_request.SignedRequest.{SignedRequest}
use Rattle.dsr_envelope.specs.declared.envelope.Envelope.{Envelope}
use Rattle.dsr_envelope.specs.declared.envelope.Envelope.TheVariants.{Ask}
use Rattle.dsr_envelope.specs.declared.entry.Entry.{Entry}
use Rattle.dsr_envelope.specs.declared.entry.Entry.TheVariants.{Take}
use Rattle.dsr_envelope.specs.declared.due.Due.TheVariants.{Take as TakeFrom}
use Rattle.dsr_envelope.specs.declared.pick.Pick.{Pick}
use Rattle.dsr_envelope.specs.Limits.{IsEnvelope}
use Rattle.dsr_replica.specs.Replica.{Replica, HasRoom, StandsFor}
use Rattle.dsr_client.specs.Client.{StandsFor as StandsForClient}
use Rattle.dsr_client.specs.State.{outstanding, accepted}
use Rattle.dsr_node.specs.Conduct.{post_of, is_exhausted, AcceptsBy}
use Rattle.dsr_node.specs.Customer.{Customer}
use Rattle.dsr_node.specs.declared.node.Node.{Node}
use Rattle.dsr_node.specs.declared.node.Node.TheVariants.{Loyal, Traitor, Client}

-- the replica is this loyal one, and represents the log
pub record PlaysReplica (shape : Shape) (p : ℕ) (log : List Entry) (r : Replica) : Type 0 where
  pub honest : is_traitor shape p ≡ false
  pub me : r.me ≡ ReplicaNumber p
  pub shape_is : r.shape ≡ shape
  pub stands : StandsFor r log

-- the client is this one, represents the log, and has noted what it accepted
pub record PlaysClient (shape : Shape) (c : ℕ) (log : List Entry) (x : Customer) : Type 0 where
  pub me : x.client.me ≡ c
  pub shape_is : x.client.shape ≡ shape
  pub stands : StandsForClient x.client log
  pub noted : x.accepted ≡ reverse (accepted shape log)

-- the node plays the actor, whose log this is
abbrev pub Plays : Shape → Actor → List Entry → Node → Type 0
Plays shape (ReplicaNumber p) log (Loyal r) = PlaysReplica shape p log r
Plays shape (ReplicaNumber p) log Traitor = is_traitor shape p ≡ true
Plays shape (ReplicaNumber p) log (Client x) = ⊥
Plays shape (ClientNumber c) log (Loyal r) = ⊥
Plays shape (ClientNumber c) log Traitor = ⊥
Plays shape (ClientNumber c) log (Client x) = PlaysClient shape c log x

-- the refusal of a post; none if the protocol allows the post
abbrev pub post_refusal : Shape → List Entry → Actor → Actor → Pick → Option Refusal
post_refusal shape log me to pick =
    if is_none (post_of shape log me to pick) then Some NotDue
    else if is_exhausted shape log me to pick then Some Exhausted
    else None

-- a loyal replica or a client: an actor that keeps a protocol
abbrev pub IsHonest : Node → Type 0
IsHonest (Loyal r) = Unit {0}
IsHonest Traitor = ⊥
IsHonest (Client x) = Unit {0}

-- a client
abbrev pub IsClient : Node → Type 0
IsClient (Loyal r) = ⊥
IsClient Traitor = ⊥
IsClient (Client x) = Unit {0}

-- the node may post to this actor by this choice: it plays an actor that is not a traitor, over a log that does not refuse the post
pub record CanPost (node : Node) (to : Actor) (pick : Pick) : Type 0 where
  pub shape : Shape
  pub me : Actor
  pub log : List Entry
  pub plays : Plays shape me log node
  pub honest : IsHonest node
  pub none : post_refusal shape log me to pick ≡ None

-- the node may take this envelope from this actor: what it takes is due, and within the limits
abbrev pub MayTake : Node → Actor → Envelope → Type 0
MayTake (Loyal r) (ReplicaNumber p) envelope = r.next ≡ TakeFrom p
MayTake (Loyal r) (ClientNumber c) envelope = c < r.shape.m
MayTake Traitor from envelope = Unit {0}
MayTake (Client x) from envelope = IsActor x.client.shape from × (from ≢ ClientNumber x.client.me) × IsEnvelope envelope

-- the node can take this envelope from this actor: what it takes is due, within the limits, and there is room for it
abbrev pub CanTake : Node → Actor → Envelope → Type 0
CanTake (Loyal r) (ReplicaNumber p) envelope = (r.next ≡ TakeFrom p) × HasRoom r
CanTake (Loyal r) (ClientNumber c) envelope = c < r.shape.m
CanTake Traitor from envelope = Unit {0}
CanTake (Client x) from envelope = IsActor x.client.shape from × (from ≢ ClientNumber x.client.me) × IsEnvelope envelope × (0 < x.room)

-- the node has room for what it may take
abbrev pub HasRoomToTake : Node → Type 0
HasRoomToTake (Loyal r) = HasRoom r
HasRoomToTake Traitor = Unit {0}
HasRoomToTake (Client x) = 0 < x.room

-- the reply that the actor accepts with a take, if any
abbrev pub TakesReply : Shape → Actor → List Entry → Actor → Envelope → Option AReply → Type 0
TakesReply shape (ReplicaNumber p) log from envelope reply = reply ≡ None
TakesReply shape (ClientNumber c) log from envelope reply = AcceptsBy reply (accepted shape (Take from envelope ∷ log)) (accepted shape log)

-- the actor is a replica
abbrev pub IsReplicaNumber : Actor → Type 0
IsReplicaNumber (ReplicaNumber p) = Unit {0}
IsReplicaNumber (ClientNumber c) = ⊥

-- the envelope is an ask with the number of the client's outstanding request
abbrev pub IsOutstandingAsk : Shape → List Entry → Envelope → Type 0
IsOutstandingAsk shape log envelope =
    (ask : SignedRequest) × (envelope ≡ Ask ask) × (option_map (λ current. current.request.number) (outstanding shape log) ≡ Some ask.request.number)

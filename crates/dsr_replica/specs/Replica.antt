-- A replica as contracts see it, and when it represents a log (this project).
use Rattle.std.specs.Prelude.{◌≡◌, ◌⊎◌, ℕ, zero, suc, ◌+◌, ◌<◌, ◌≤◌, ◌^◌, List, [], ◌∷◌, Option, None, Some, IsSome, slice_get, slice_index_or, if◌then◌else◌}
use Rattle.dsr_base.specs.Member.{In}
use Rattle.dsr_names.specs.Shape.{Shape}
use Rattle.dsr_names.specs.declared.actor.Actor.{Actor}
use Rattle.dsr_names.specs.declared.refusal.Refusal.{Refusal}
use Rattle.dsr_names.specs.declared.refusal.Refusal.TheVariants.{NotDue, Exhausted, NoMemory}
use Rattle.dsr_names.specs.declared.actor.Actor.TheVariants.{Replica as ReplicaNumber}
use Rattle.dsr_chain.specs.declared.signed_request.SignedRequest.{SignedRequest}
use Rattle.dsr_chain.specs.declared.slot_value.SlotValue.{SlotValue}
use Rattle.dsr_chain.specs.declared.slot_value.SlotValue.TheVariants.{Idle}
use Rattle.dsr_slot.specs.SlotState.{SlotState, HasRead}
use Rattle.dsr_envelope.specs.declared.entry.Entry.{Entry}
use Rattle.dsr_envelope.specs.declared.pick.Pick.{Pick}
use Rattle.dsr_envelope.specs.declared.pick.Pick.TheVariants.{Plain, From, Begin}
use Rattle.dsr_envelope.specs.declared.due.Due.{Due}
use Rattle.dsr_envelope.specs.declared.due.Due.TheVariants.{Post as PostTo, Take as TakeFrom}
use Rattle.dsr_replica.specs.Conduct.{from_held, envelope_with, is_due}
use Rattle.dsr_replica.specs.Counts.{HasCounts}
use Rattle.dsr_replica.specs.Decided.{slot_read, decided_values}
use Rattle.dsr_replica.specs.Held.{held, put_before}
use Rattle.dsr_envelope.specs.Log.{posted_to, due}

-- its actor and its shape; what is due; the round in progress and the slots in flight in it; what was decided for the
-- closed slots, the latest first; what it proposes in the round; the asks that it holds, by client; and for how many more
-- requests and values it has room
pub record Replica : Type 0 where
  pub me : Actor
  pub shape : Shape
  pub next : Due
  pub round : ℕ
  pub slots : List SlotState
  pub values : List SlotValue
  pub proposed : SlotValue
  pub asks : List (Option SignedRequest)
  pub requests : ℕ
  pub places : ℕ

-- these are the states of the slots from `first` to the one that begins with this round, in their order, each with its
-- earlier rounds closed
abbrev pub AreInFlight : Shape → ℕ → List SlotState → ℕ → Type 0
AreInFlight shape round [] first = first ≡ suc round
AreInFlight shape round (s ∷ more) first =
    (s.shape ≡ shape) × (s.slot ≡ first) × (first + s.closed ≡ round) × AreInFlight shape round more (suc first)

-- it has room for what the next take may decide
pub record HasRoom (r : Replica) : Type 0 where
  pub requests : 8 ≤ r.requests
  pub places : 0 < r.places

-- the ask held for a client
abbrev pub ask_of : List (Option SignedRequest) → ℕ → Option SignedRequest
ask_of asks client = slice_index_or asks client None

-- the asks held for these clients, in this order; none if one of them has none
abbrev pub asks_of : List (Option SignedRequest) → List ℕ → Option (List SignedRequest)
asks_of asks [] = Some []
asks_of asks (client ∷ more) = put_before (ask_of asks client) (asks_of asks more)

-- the value that a choice proposes at the post to replica 0
abbrev pub value_of : Replica → Pick → Option SlotValue
value_of r Plain = Some Idle
value_of r (From clients) = from_held r.shape r.me r.round (asks_of r.asks clients)
value_of r (Begin op) = None

-- the value of the envelope to a replica: at replica 0 the one that the choice proposes, after it the one proposed to replica 0
abbrev pub value_at : Replica → ℕ → Pick → Option SlotValue
value_at r zero pick = value_of r pick
value_at r (suc q) Plain = Some r.proposed
value_at r (suc q) (From clients) = None
value_at r (suc q) (Begin op) = None

-- the same if the post is due, else none
abbrev pub value_for : Replica → ℕ → Pick → Option SlotValue
value_for r to pick = if is_due r.next to then value_at r to pick else None

-- the replica may post to this replica by this choice: the post is due, the choice allowed, and the round below 2^36
pub record Allows (r : Replica) (to : ℕ) (pick : Pick) : Type 0 where
  pub some : IsSome (value_for r to pick)
  pub below : r.round < 2 ^ 36

-- what is due is a post to a replica after replica 0
abbrev pub IsLaterPost : Due → Type 0
IsLaterPost (PostTo q) = 0 < q
IsLaterPost (TakeFrom p) = ⊥

-- the replica represents the log: what is due is what the log says; the round is the number of closed rounds; each slot in
-- flight has read what was sent in its rounds and taken so far; the values are those that are decided; the asks are those
-- that are held; and the value that it proposes gives the envelope that was posted to replica 0
pub record StandsFor (r : Replica) (log : List Entry) : Type 0 where
  pub due_is : r.next ≡ due r.shape log
  pub counts : HasCounts r.shape log r.round
  pub read : (s : SlotState) → In s r.slots → HasRead s (slot_read s.shape log s.slot)
  pub values_are : r.values ≡ decided_values r.shape log
  pub asks_are : (client : ℕ) → ask_of r.asks client ≡ held r.shape client log
  pub posted : IsLaterPost r.next → slice_get (posted_to (ReplicaNumber 0) log) r.round ≡ Some (envelope_with r.shape r.me log r.proposed)

-- why a post is refused: it is not due, the rounds are exhausted, or memory ran out
abbrev pub IsPostRefusal : Refusal → Type 0
IsPostRefusal e = (e ≡ NotDue) ⊎ (e ≡ Exhausted) ⊎ (e ≡ NoMemory)

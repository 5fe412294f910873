-- How a replica is stored in its parts, and what they hold (this project).
use Rattle.std.specs.Prelude.{◌≡◌, ℕ, suc, ◌^◌, ◌<◌, ◌≤◌, ◌==◌, true, false, List, ◌∷◌, ◌++◌, [], Option, None, Some, length, map, if◌then◌else◌}
use Rattle.dsr_rotation.specs.Calendar.{closed_slots}
use Rattle.dsr_chain.specs.declared.slot_value.SlotValue.{SlotValue}
use Rattle.dsr_slot.specs.SlotState.{opened, with_closed}
use Rattle.dsr_envelope.specs.declared.envelope.Envelope.{Envelope}
use Rattle.dsr_replica.specs.declared.replica.Replica.TheInside.{Inside}
use Rattle.dsr_envelope.specs.declared.due.Due.{Due}
use Rattle.dsr_envelope.specs.declared.due.Due.TheVariants.{Post as PostTo, Take as TakeFrom}
use Rattle.dsr_replica.specs.Counts.{IsInside}
use Rattle.dsr_envelope.specs.Envelope.{chains_for}
use Rattle.dsr_replica.specs.Replica.{Replica}
use Rattle.dsr_replica.specs.Support.Flights.{with_chains, going_on, decided_with}

-- the replica with these parts
abbrev pub replica_of : Inside → Replica
replica_of a = record {
  me = a.key;
  shape = a.flights.shape;
  next = a.due;
  round = a.flights.round;
  slots = a.flights.slots;
  values = a.decisions.values;
  proposed = a.proposed;
  asks = a.asks;
  requests = a.decisions.requests;
  places = a.decisions.places;
}

-- no round from 2^36 on is begun
abbrev pub IsWithin : Due → ℕ → Type 0
IsWithin (PostTo q) round = round ≤ 2 ^ 36
IsWithin (TakeFrom p) round = round < 2 ^ 36

-- what is due is inside the shape; there are as many values as closed slots, replies for the shape's clients, and
-- places for their asks; and the round is within the limit
pub record IsReplicaFields (a : Inside) : Type 0 where
  pub inside : IsInside a.flights.shape.n a.due
  pub counted : length a.decisions.values ≡ closed_slots a.flights.shape a.flights.round
  pub clients : a.decisions.clients ≡ a.flights.shape.m
  pub asks : length a.asks ≡ a.flights.shape.m
  pub within : IsWithin a.due a.flights.round

-- the replica after this envelope is read in the round in progress
abbrev pub with_envelope : Replica → Envelope → Replica
with_envelope r envelope = record r { slots = map (with_chains (chains_for r.round envelope)) r.slots }

-- the decided value put before the others; without one, the others alone
abbrev pub with_decided : Option SlotValue → List SlotValue → List SlotValue
with_decided None values = values
with_decided (Some value) values = value ∷ values

-- the replica after the round in progress is closed
abbrev pub next_round : Replica → Replica
next_round r = record r {
  next = PostTo 0;
  round = suc r.round;
  slots = map with_closed (going_on r.shape r.round r.slots) ++ opened r.shape (suc r.round) ∷ [];
  values = with_decided (decided_with r.shape r.round r.slots) r.values;
}

-- what is due after a post to this replica
abbrev pub after_post_to : ℕ → ℕ → Due
after_post_to n q = if suc q == n then TakeFrom 0 else PostTo (suc q)

-- the replica after the envelope of a take from this replica is read: the next take is due, or the round is closed if
-- it was the last
pub record IsAfterTake (before : Replica) (from : ℕ) (after : Replica) : Type 0 where
  pub more : (suc from == before.shape.n) ≡ false → after ≡ record before { next = TakeFrom (suc from) }
  pub last : (suc from == before.shape.n) ≡ true → after ≡ record (next_round before) { requests = after.requests; places = after.places }

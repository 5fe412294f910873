-- How private contracts see the slots in flight at a replica (this project).
use Rattle.std.specs.Prelude.{◌≡◌, ℕ, suc, ◌+◌, ◌≤◌, ◌==◌, nat_lt, Bool, ◌&&◌, List, [], ◌∷◌, ◌++◌, map, All, Option, None, Some, if◌then◌else◌}
use Rattle.dsr_names.specs.Shape.{Shape}
use Rattle.dsr_names.specs.declared.actor.Actor.{Actor}
use Rattle.dsr_names.specs.Support.ActorEquality.{actor_eq}
use Rattle.dsr_chain.specs.Chain.{Chain}
use Rattle.dsr_chain.specs.Proper.{sender_of}
use Rattle.dsr_chain.specs.declared.slot_value.SlotValue.{SlotValue}
use Rattle.dsr_slot.specs.Conduct.{posted}
use Rattle.dsr_slot.specs.Decision.{decision}
use Rattle.dsr_slot.specs.Keeping.{keep}
use Rattle.dsr_slot.specs.SlotState.{SlotState, opened, with_closed}

-- the shape, the round in progress, and the slots in flight in it
pub record Flights : Type 0 where
  pub shape : Shape
  pub round : ℕ
  pub slots : List SlotState

-- a slot after these chains are read in the round after its closed ones
abbrev pub with_chains : List Chain → SlotState → SlotState
with_chains chains s = record s { kept = keep s.shape s.slot (suc s.closed) s.kept chains }

-- one more of its rounds can be closed
abbrev pub HasOpenRound : SlotState → Type 0
HasOpenRound s = s.closed ≤ s.shape.f

-- the first of these slots has all rounds closed but its last
abbrev pub IsFirstLast : List SlotState → Type 0
IsFirstLast [] = ⊥
IsFirstLast (s ∷ more) = s.closed ≡ s.shape.f

-- these slots have this shape
abbrev pub AreOf : Shape → List SlotState → Type 0
AreOf shape slots = All (λ (s : SlotState). s.shape ≡ shape) slots

-- whether a replica starts a chain in the round after the slot's closed ones
abbrev pub is_begun : Actor → SlotState → Bool
is_begun me s = (s.closed == 0) && actor_eq me (sender_of s.shape s.slot)

-- what is posted for a slot in the round after its closed ones
abbrev pub slot_post : Actor → SlotValue → SlotState → List Chain
slot_post me value s = posted s.shape s.slot me value (suc s.closed) s.kept

-- what is posted for these slots, one after the other
abbrev pub posts_of : Actor → SlotValue → List SlotState → List Chain
posts_of me value [] = []
posts_of me value (s ∷ more) = slot_post me value s ++ posts_of me value more

-- all but the first
abbrev pub rest_of : List SlotState → List SlotState
rest_of [] = []
rest_of (s ∷ more) = more

-- the slots that go on past this round: from round f on the first one closes with it
abbrev pub going_on : Shape → ℕ → List SlotState → List SlotState
going_on shape round slots = if nat_lt round shape.f then slots else rest_of slots

-- the slots in flight in the next round
abbrev pub next_flights : Flights → Flights
next_flights flights = record {
  shape = flights.shape;
  round = suc flights.round;
  slots = map with_closed (going_on flights.shape flights.round flights.slots) ++ opened flights.shape (suc flights.round) ∷ [];
}

-- what is decided for the first slot; nothing if the list is empty
abbrev pub first_decided : List SlotState → Option SlotValue
first_decided [] = None
first_decided (s ∷ more) = Some (decision s.kept)

-- what is decided with this round, from round f on: the value of the slot that closes with it
abbrev pub decided_with : Shape → ℕ → List SlotState → Option SlotValue
decided_with shape round slots = if nat_lt round shape.f then None else first_decided slots

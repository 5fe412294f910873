-- What the fields of the slots in flight hold (this project).
use Rattle.std.specs.Prelude.{◌+◌, ◌≤◌, vec_capacity}
use Rattle.dsr_rotation.specs.Calendar.{closed_slots}
use Rattle.dsr_replica.specs.declared.flights.Flights.TheInside.{Inside}
use Rattle.dsr_replica.specs.Replica.{AreInFlight}
use Rattle.dsr_replica.specs.Support.Flights.{Flights}

-- the slots in flight in these fields
abbrev pub flights_of : Inside → Flights
flights_of a = record { shape = a.shape; round = a.round; slots = a.slots.items }

-- the slots are those of the round, there is room for as many as are ever in flight, and f is at
-- most 7
pub record IsFlightsFields (a : Inside) : Type 0 where
  pub in_flight : AreInFlight a.shape a.round a.slots.items (closed_slots a.shape a.round)
  pub room : a.shape.f + 1 ≤ vec_capacity a.slots
  pub few : a.shape.f ≤ 7

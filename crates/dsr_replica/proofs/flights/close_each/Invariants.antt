use Rattle.std.proofs.Common.{◌≡◌}
use Rattle.std.specs.Prelude.{vec_capacity}
use Rattle.dsr_replica.proofs.InFlight.{first_closed}
use Rattle.dsr_replica.proofs.flights.close_each.Given as goal

abbrev pub invariant-loop-place : goal.invariant-loop-place
invariant-loop-place l =
    (l.slots.items ≡ first_closed l.place l.initial.slots.items) × (vec_capacity l.slots ≡ vec_capacity l.initial.slots)

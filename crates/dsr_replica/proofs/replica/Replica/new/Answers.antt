use Rattle.std.proofs.Common.{refl, ap}
use Rattle.dsr_replica.specs.Support.Flights.{Flights}
use Rattle.dsr_replica.proofs.Standing.{stands_new}
use Rattle.dsr_replica.proofs.replica.Replica.new.Goals as goal

pub returns-clause-stands : goal.returns-clause-stands
returns-clause-stands c =
    let opened = c.in_ok-flights.ensures.opened in
    stands_new _ c.args.shape.now c.n-n.ensures.allowed.some_replica
    (ap (λ (f : Flights). f.shape) opened) refl (ap (λ (f : Flights). f.round) opened) (ap (λ (f : Flights). f.slots) opened) c.in_ok-decisions.ensures.none c.in_ok-asks.ensures.none

use Rattle.std.proofs.Common.{◌≡◌, ◌∙◌, ◌<◌, sym, ap, subst, length, arith}
use Rattle.dsr_replica.specs.Replica.{StandsFor}
use Rattle.dsr_replica.specs.Support.Asks.{asks_with}
use Rattle.dsr_replica.specs.Support.ReplicaFields.{replica_of}
use Rattle.dsr_replica.proofs.Standing.{stands_ask}
use Rattle.dsr_replica.proofs.replica.Replica.ask_taken.Goals as goal

pub returns-clause-stands : goal.returns-clause-stands
returns-clause-stands c =
    let a = c.self.inside in
    let client = c.args.client in
    let held : c.take.new.self ≡ asks_with a.flights.shape client a.asks c.args.envelope =
    c.take.ensures ∙ ap (λ s. asks_with s client a.asks c.args.envelope) c.shape-shape.ensures in
    let count = c.self.invariant.asks in
    let below : client < a.flights.shape.m = rw (← c.self.view_is) at c.requires in
    let inside : client < length a.asks = omega (arith, count, below) in
    λ log stands. stands_ask (replica_of a) log client c.args.envelope c.take.new.self inside held (subst (λ r. StandsFor r log) (sym c.self.view_is) stands)

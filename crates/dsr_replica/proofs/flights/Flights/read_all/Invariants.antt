use Rattle.std.proofs.Common.{◌≡◌, ◌++◌, map}
use Rattle.std.specs.Vec.Iter.{drain_items}
use Rattle.dsr_replica.specs.Support.Flights.{with_chains}
use Rattle.dsr_replica.proofs.flights.Flights.read_all.Given as goal

abbrev pub invariant-loop-chain : goal.invariant-loop-chain
invariant-loop-chain l =
    (goal.iterator-loop-chain).can_next l.chain-iterator ×
    (goal.iterator-loop-chain).is_finite l.chain-iterator ×
    (l.self ≡ record (l.initial.self) { slots = map (with_chains l.yielded) l.initial.self.slots }) ×
    (l.yielded ++ drain_items l.chain-iterator ≡ drain_items l.initial.chain-iterator)

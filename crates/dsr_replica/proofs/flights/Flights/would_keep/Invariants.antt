use Rattle.std.proofs.Common.{◌≡◌, map, take}
use Rattle.dsr_replica.specs.Support.Flights.{with_chains}
use Rattle.dsr_replica.proofs.flights.Flights.would_keep.Given as goal

abbrev pub invariant-loop-chain : goal.invariant-loop-chain
invariant-loop-chain l = map (with_chains (take l.chain-index l.chains)) l.self.slots ≡ l.self.slots

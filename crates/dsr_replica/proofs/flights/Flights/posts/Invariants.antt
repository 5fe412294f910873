use Rattle.std.proofs.Common.{◌≡◌, take}
use Rattle.dsr_chain.specs.Content.{value_of}
use Rattle.dsr_replica.specs.Support.Flights.{posts_of}
use Rattle.dsr_replica.proofs.flights.Flights.posts.Given as goal

abbrev pub invariant-loop-slot : goal.invariant-loop-slot
invariant-loop-slot l = l.chains.items ≡ posts_of l.key (value_of l.signed) (take l.slot-index l.slot-items)

use Rattle.std.proofs.Common.{◌≡◌, ℕ, length}
use Rattle.std.specs.Prelude.{None, slice_index_or}
use Rattle.dsr_replica.proofs.held.Asks.new.Given as goal

-- no ask so far
abbrev pub invariant-loop : goal.invariant-loop
invariant-loop l = (length l.list.items ≡ l.counter) × ((client : ℕ) → slice_index_or l.list.items client None ≡ None)

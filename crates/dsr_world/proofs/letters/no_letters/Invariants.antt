use Rattle.std.proofs.Common.{◌≡◌, ℕ, length}
use Rattle.std.specs.Prelude.{None, slice_index_or}
use Rattle.dsr_world.proofs.letters.no_letters.Given as goal

-- no letter so far
abbrev pub invariant-loop : goal.invariant-loop
invariant-loop l = (length l.letters.items ≡ l.counter) × ((p : ℕ) → slice_index_or l.letters.items p None ≡ None)

use Rattle.std.proofs.Common.{◌≡◌, ℕ, length}
use Rattle.std.specs.Prelude.{None, slice_index_or}
use Rattle.dsr_check.proofs.audit.no_firsts.Given as goal

-- no envelope so far
abbrev pub invariant-loop : goal.invariant-loop
invariant-loop l = (length l.firsts.items ≡ l.counter) × ((p : ℕ) → slice_index_or l.firsts.items p None ≡ None)

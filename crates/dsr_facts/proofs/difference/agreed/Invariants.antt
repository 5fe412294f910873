use Rattle.std.proofs.Common.{◌≡◌, ℕ, ◌<◌, ◌≤◌, length}
use Rattle.std.specs.Prelude.{slice_get}
use Rattle.dsr_facts.proofs.difference.agreed.Given as goal

-- the lists agree so far
abbrev pub invariant-loop-place : goal.invariant-loop-place
invariant-loop-place l = record {
  before : (i : ℕ) → i < l.place → slice_get l.ours i ≡ slice_get l.theirs i;
  within : l.place ≤ length l.theirs;
}

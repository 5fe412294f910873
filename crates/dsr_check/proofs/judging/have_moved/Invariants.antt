use Rattle.std.proofs.Common.{◌≡◌, ℕ, ◌<◌}
use Rattle.dsr_check.specs.Support.Heads.{head_of}
use Rattle.dsr_check.proofs.judging.have_moved.Given as goal

-- the heads before this one moved, or are at the end
abbrev pub invariant-loop-client : goal.invariant-loop-client
invariant-loop-client l = (client : ℕ) → client < l.client → head_of l.after client < l.end → ¬ (head_of l.after client ≡ head_of l.before client)

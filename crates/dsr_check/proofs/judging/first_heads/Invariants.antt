use Rattle.std.proofs.Common.{◌≡◌, ℕ, ◌<◌, length}
use Rattle.dsr_check.specs.Support.Heads.{head_of, IsNext}
use Rattle.dsr_check.proofs.judging.first_heads.Given as goal

-- the heads before this one are at the first replies of their clients
abbrev pub invariant-loop-client : goal.invariant-loop-client
invariant-loop-client l = record {
  size : length l.heads ≡ 32;
  first : (client : ℕ) → client < l.client → IsNext l.accepted client 0 (head_of l.heads client);
}

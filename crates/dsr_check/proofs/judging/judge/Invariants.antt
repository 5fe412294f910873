use Rattle.std.proofs.Common.{◌≡◌, ℕ, ◌<◌, ◌≤◌, length, reverse}
use Rattle.dsr_check.specs.Support.Heads.{head_of, IsHead}
use Rattle.dsr_check.proofs.judging.judge.Given as goal

-- the replies before the heads are right, and each walk moved each head that was not at the end
abbrev pub invariant-loop : goal.invariant-loop
invariant-loop l = record {
  size : length l.heads ≡ 32;
  heads : (client : ℕ) → client < 32 → IsHead (reverse l.history) l.accepted client (head_of l.heads client);
  far : (client : ℕ) → client < 32 → head_of l.heads client < length l.accepted → l.counter ≤ head_of l.heads client;
}

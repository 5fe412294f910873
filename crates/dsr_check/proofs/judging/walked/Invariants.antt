use Rattle.std.proofs.Common.{◌≡◌, ℕ, ◌<◌, length, reverse, take}
use Rattle.dsr_register.specs.Table.{StandsFor}
use Rattle.dsr_history.specs.History.{operations}
use Rattle.dsr_check.specs.Support.Heads.{head_of, HasWalked}
use Rattle.dsr_check.proofs.judging.walked.Given as goal

-- the table represents the requests so far, and the heads have walked along them
abbrev pub invariant-loop-place : goal.invariant-loop-place
invariant-loop-place l = record {
  size : length l.moved ≡ 32;
  stands : StandsFor l.table (operations (reverse (take l.place l.history)));
  walked : (client : ℕ) → client < 32
      → HasWalked (reverse l.history) (reverse (take l.place l.history)) l.accepted client (head_of l.heads client) (head_of l.moved client);
}

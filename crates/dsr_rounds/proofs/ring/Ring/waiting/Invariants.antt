use Rattle.std.proofs.Common.{◌≡◌, ◌<◌, ◌≤◌, ◌-◌, ◌++◌, length}
use Rattle.std.specs.Prelude.{filter, take}
use Rattle.dsr_run.specs.Eager.{is_waiting, in_turn, next_proposed}
use Rattle.dsr_rounds.proofs.ring.Ring.waiting.Given as goal

-- what was gathered, and who waits of those that are still to pass, are the clients that are next
abbrev pub invariant-loop-passed : goal.invariant-loop-passed
invariant-loop-passed l = record {
  inside : l.number < l.self;
  few : length l.waiting ≤ 8;
  next : take 8 (l.waiting ++ filter (is_waiting l.seat.shape l.seat.log) (in_turn l.self (l.self - l.passed) l.number))
      ≡ next_proposed l.seat.shape l.seat.log;
}

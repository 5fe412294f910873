use Rattle.std.proofs.Common.{◌≡◌, vec_len}
use Rattle.dsr_boxes.proofs.open.no_sleepers.Given as goal

abbrev pub invariant-loop : goal.invariant-loop
invariant-loop l = vec_len l.sleepers ≡ l.counter

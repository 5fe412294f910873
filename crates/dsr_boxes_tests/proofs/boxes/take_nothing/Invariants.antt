use Rattle.std.proofs.Common.{◌≡◌}
use Rattle.dsr_boxes_tests.proofs.boxes.take_nothing.Given as goal

abbrev pub invariant-loop : goal.invariant-loop
invariant-loop l = l.taker ≡ l.fn.taker

use Rattle.std.proofs.Common.{◌≡◌}
use Rattle.dsr_boxes_tests.proofs.boxes.plant_nothing.Given as goal

abbrev pub invariant-loop : goal.invariant-loop
invariant-loop l = l.traitor ≡ l.fn.traitor

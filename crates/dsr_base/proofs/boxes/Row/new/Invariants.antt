use Rattle.std.proofs.Common.{◌≡◌, ℕ, length}
use Rattle.dsr_base.specs.Boxes.{empty_box, box_in}
use Rattle.dsr_base.proofs.boxes.Row.new.Given as goal

-- empty boxes so far
abbrev pub invariant-loop : goal.invariant-loop
invariant-loop g l = (length l.boxes.items ≡ l.counter) × ((to : ℕ) → box_in l.boxes.items to ≡ empty_box)

use Rattle.std.proofs.Common.{◌≡◌, ℕ, ◌<◌, length}
use Rattle.dsr_base.specs.Boxes.{empty_box, row_of, box_at}
use Rattle.dsr_base.proofs.boxes.Boxes.new.Given as goal

-- rows of empty boxes so far
abbrev pub invariant-loop : goal.invariant-loop
invariant-loop g l =
    (length l.rows.items ≡ l.counter)
    × ((from : ℕ) → from < l.counter → length (row_of l.rows.items from) ≡ l.places)
    × ((from to : ℕ) → box_at l.rows.items from to ≡ empty_box)

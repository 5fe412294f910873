use Rattle.dsr_boxes.proofs.Dealing.{IsDealt}
use Rattle.dsr_boxes.proofs.shared_boxes.SharedBoxes.deal.Given as goal

abbrev pub invariant-loop-left : goal.invariant-loop-left
invariant-loop-left l = IsDealt l.self l.token.table_id l.token.me l.left l.passes.items

abbrev pub decreases-loop-left : goal.decreases-loop-left
decreases-loop-left l = l.left

use Rattle.dsr_run.proofs.Boxes.{boxes, taken_was_posted}
use Rattle.dsr_run.proofs.laws.boxes_hold_one_envelope.Goals as goal

pub returns-clause-boxes : goal.returns-clause-boxes
returns-clause-boxes c shape run is a b = boxes shape run is a b

pub returns-clause-posted : goal.returns-clause-posted
returns-clause-posted c shape run is a b envelope taken = taken_was_posted shape run is a b envelope taken

use Rattle.dsr_boxes.proofs.Looking.{looks}
use Rattle.dsr_boxes.proofs.Parts.{some_words}
use Rattle.dsr_boxes.proofs.shared_boxes.SharedBoxes.moment.Goals as goal

pub load_new_seat-word-requires : goal.load_new_seat-word-requires
load_new_seat-word-requires c = (some_words c.self.inside.memory.shared.table_id.words _ c.self.invariant.1.0, looks c.self.inside.memory.shared.key c.self.inside.memory.shared.table_id.slots 0)

use Rattle.std.proofs.Common.{◌+◌, ◌<◌, ap, subst}
use Rattle.dsr_boxes.proofs.Told.{word_inside}
use Rattle.dsr_boxes.proofs.shared_boxes.SharedBoxes.word_of.Goals as goal

pub returns-clause-inside : goal.returns-clause-inside
returns-clause-inside c =
    subst (λ n. 4 + c.slot_of.result < n) (ap (λ b. b.id.words) c.self.view_is)
    (word_inside c.args.self.now.shape c.self.inside.shape c.self.inside.memory.shared.table_id.words c.slot_of.result c.args.from.now c.args.to.now
    (ap (λ b. b.shape) c.self.view_is) c.self.invariant.1.0 c.requires.from c.requires.to c.slot_of.ensures.same)

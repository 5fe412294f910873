use Rattle.std.proofs.Common.{ap, sym, ◌∙◌, rules}
use Rattle.dsr_boxes.specs.View.{logs_kept}
use Rattle.dsr_boxes.proofs.Parts.{some_words, learns_as}
use Rattle.dsr_boxes.proofs.shared_boxes.SharedBoxes.close.Goals as goal

pub load-requires : goal.load-requires
load-requires c = (
  search rules,
  some_words c.self.inside.memory.shared.table_id.words _ c.self.invariant.1.0,
  learns_as c.returned.inside.token.me.0.shape c.self.inside.memory.shared.key c.self.inside.memory.shared.table_id.slots c.returned.inside.token.id 0 c.returned.inside.token.me
      (logs_kept c.returned.inside.token.me.0.part)
      (ap (λ r. r.shape) c.returned.view_is ∙ (c.requires.boxes.1 ∙ (sym (ap (λ b. b.shape) c.self.view_is) ∙ sym c.self.invariant.0)))
      c.returned.invariant,
)

use Rattle.std.proofs.Common.{ap, sym, ◌∙◌, rules}
use Rattle.dsr_boxes.specs.View.{moment_in}
use Rattle.dsr_boxes.proofs.Looking.{copies_as}
use Rattle.dsr_boxes.proofs.Parts.{some_words}
use Rattle.dsr_boxes.proofs.moment.Moment.copy.Goals as goal

pub split_seat-token-requires : goal.split_seat-token-requires
split_seat-token-requires c = (
  search rules,
  some_words c.boxes.inside.memory.shared.table_id.words _ c.boxes.invariant.1.0,
  copies_as c.self.inside.token.me.0.shape c.boxes.inside.memory.shared.key c.self.inside.token.id
      (ap (λ m. m.shape) c.self.view_is ∙ (c.requires.boxes.1 ∙ (sym (ap (λ b. b.shape) c.boxes.view_is) ∙ sym c.boxes.invariant.0)))
      (moment_in c.self.inside.token.me.0.part) c.self.inside.token.me.0 (ap (λ m. m.0) c.self.invariant.0),
)

use Rattle.std.proofs.Common.{◌≡◌, ap, sym, ◌∙◌, rules}
use Rattle.dsr_boxes.specs.View.{looking_back, logs_kept, moment_in}
use Rattle.dsr_boxes.proofs.Looking.{reminds_all_as, learns_all_as, all_reminded}
use Rattle.dsr_boxes.proofs.Parts.{some_words}
use Rattle.dsr_boxes.proofs.shared_boxes.SharedBoxes.close_after.Goals as goal

pub join_seat-requires : goal.join_seat-requires
join_seat-requires c =
    let shape = c.returned.inside.token.me.0.shape in
    let same : shape ≡ c.args.self.shape = ap (λ r. r.shape) c.returned.view_is ∙ c.requires.boxes.1 in
    let past = moment_in c.moment.inside.token.me.0.part in (
      search rules,
      search rules,
      ap (λ m. m.1) c.moment.invariant.0,
      some_words c.self.inside.memory.shared.table_id.words _ c.self.invariant.1.0,
      reminds_all_as shape c.self.inside.memory.shared.key c.returned.inside.token.id (same ∙ (sym (ap (λ b. b.shape) c.self.view_is) ∙ sym c.self.invariant.0))
          c.moment.inside.token.id (logs_kept c.returned.inside.token.me.0.part) past c.returned.inside.token.me.0 c.moment.inside.token.me.0
          (ap (λ m. m.0) c.returned.invariant)
          (ap (λ m. m.0) c.moment.invariant.0 ∙ ap (λ s. (looking_back s past).0) (ap (λ m. m.shape) c.moment.view_is ∙ (c.requires.moment.1 ∙ sym same))),
    )

pub load-requires : goal.load-requires
load-requires c =
    let shape = c.returned.inside.token.me.0.shape in
    let same : shape ≡ c.args.self.shape = ap (λ r. r.shape) c.returned.view_is ∙ c.requires.boxes.1 in
    let logs = logs_kept c.returned.inside.token.me.0.part in
    let past = moment_in c.moment.inside.token.me.0.part in (
      search rules,
      some_words c.self.inside.memory.shared.table_id.words _ c.self.invariant.1.0,
      learns_all_as shape c.self.inside.memory.shared.key c.self.inside.memory.shared.table_id.slots c.join_seat.new.seat.id 0
          (same ∙ (sym (ap (λ b. b.shape) c.self.view_is) ∙ sym c.self.invariant.0))
          logs past c.join_seat.new.seat.me
          (all_reminded shape logs c.returned.inside.token.me c.join_seat.new.seat.me c.moment.inside.token.me.0 c.returned.invariant c.join_seat.ensures.2),
    )

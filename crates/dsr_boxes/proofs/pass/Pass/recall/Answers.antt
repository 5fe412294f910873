use Rattle.std.proofs.Common.{◌≡◌, ap, sym, ◌∙◌, rules}
use Rattle.dsr_boxes.specs.View.{looking_back, log_in, moment_in}
use Rattle.dsr_boxes.proofs.Looking.{recalls_as, compares_as, recalled}
use Rattle.dsr_boxes.proofs.Parts.{some_words}
use Rattle.dsr_boxes.proofs.pass.Pass.recall.Goals as goal

pub join_seat-requires : goal.join_seat-requires
join_seat-requires c =
    let shape = c.self.inside.token.me.0.shape in
    let same : shape ≡ c.args.boxes.now.shape = ap (λ p. p.shape) c.self.view_is ∙ c.requires.boxes.1 in
    let past = moment_in c.moment.inside.token.me.0.part in (
      search rules,
      search rules,
      ap (λ m. m.1) c.moment.invariant.0,
      some_words c.boxes.inside.memory.shared.table_id.words _ c.boxes.invariant.1.0,
      recalls_as shape c.boxes.inside.memory.shared.key c.self.inside.token.id (same ∙ (sym (ap (λ b. b.shape) c.boxes.view_is) ∙ sym c.boxes.invariant.0))
          c.moment.inside.token.id c.self.inside.actor (log_in c.self.inside.token.me.0.part) past c.self.inside.token.me.0 c.moment.inside.token.me.0
          (ap (λ m. m.0) c.self.invariant.0)
          (ap (λ m. m.0) c.moment.invariant.0 ∙ ap (λ s. (looking_back s past).0) (ap (λ m. m.shape) c.moment.view_is ∙ (c.requires.moment.1 ∙ sym same))),
    )

pub load-requires : goal.load-requires
load-requires c =
    let shape = c.self.inside.token.me.0.shape in
    let same : shape ≡ c.args.boxes.now.shape = ap (λ p. p.shape) c.self.view_is ∙ c.requires.boxes.1 in
    let past = moment_in c.moment.inside.token.me.0.part in (
      search rules,
      some_words c.boxes.inside.memory.shared.table_id.words _ c.boxes.invariant.1.0,
      compares_as shape c.boxes.inside.memory.shared.key c.boxes.inside.memory.shared.table_id.slots c.join_seat.new.seat.id 0
          (same ∙ (sym (ap (λ b. b.shape) c.boxes.view_is) ∙ sym c.boxes.invariant.0))
          c.self.inside.actor (log_in c.self.inside.token.me.0.part) past c.join_seat.new.seat.me
          (recalled shape c.self.inside.actor (log_in c.self.inside.token.me.0.part) c.self.inside.token.me c.join_seat.new.seat.me c.moment.inside.token.me.0
          c.self.invariant.0 c.join_seat.ensures.2),
    )

use Rattle.std.proofs.Common.{◌≡◌, [], ◌∷◌, ap, sym, ◌∙◌, rules}
use Rattle.dsr_boxes.specs.View.{looking_back, moment_in}
use Rattle.dsr_boxes.proofs.Looking.{reminds_as, meets_as, reminded_of}
use Rattle.dsr_boxes.proofs.Parts.{some_words}
use Rattle.dsr_boxes.proofs.moment.Moment.meet.Goals as goal

pub join_seat-requires : goal.join_seat-requires
join_seat-requires c =
    let shape = c.self.inside.token.me.0.shape in
    let same : shape ≡ c.args.boxes.now.shape = ap (λ m. m.shape) c.self.view_is ∙ c.requires.boxes.1 in
    let known = moment_in c.self.inside.token.me.0.part in
    let past = moment_in c.other.inside.token.me.0.part in (
      search rules,
      search rules,
      ap (λ m. m.1) c.other.invariant.0,
      some_words c.boxes.inside.memory.shared.table_id.words _ c.boxes.invariant.1.0,
      reminds_as shape c.boxes.inside.memory.shared.key c.self.inside.token.id (same ∙ (sym (ap (λ b. b.shape) c.boxes.view_is) ∙ sym c.boxes.invariant.0))
          c.other.inside.token.id known past c.self.inside.token.me.0 c.other.inside.token.me.0
          (ap (λ m. m.0) c.self.invariant.0)
          (ap (λ m. m.0) c.other.invariant.0 ∙ ap (λ s. (looking_back s past).0) (ap (λ m. m.shape) c.other.view_is ∙ (c.requires.other.1 ∙ sym same))),
    )

pub load-requires : goal.load-requires
load-requires c =
    let shape = c.self.inside.token.me.0.shape in
    let same : shape ≡ c.args.boxes.now.shape = ap (λ m. m.shape) c.self.view_is ∙ c.requires.boxes.1 in
    let known = moment_in c.self.inside.token.me.0.part in
    let past = moment_in c.other.inside.token.me.0.part in (
      search rules,
      some_words c.boxes.inside.memory.shared.table_id.words _ c.boxes.invariant.1.0,
      meets_as shape c.boxes.inside.memory.shared.key c.boxes.inside.memory.shared.table_id.slots c.join_seat.new.seat.id 0
          (same ∙ (sym (ap (λ b. b.shape) c.boxes.view_is) ∙ sym c.boxes.invariant.0))
          (past ∷ known ∷ []) c.join_seat.new.seat.me
          (reminded_of shape known c.self.inside.token.me c.join_seat.new.seat.me c.other.inside.token.me.0 c.self.invariant.0 c.join_seat.ensures.2),
    )

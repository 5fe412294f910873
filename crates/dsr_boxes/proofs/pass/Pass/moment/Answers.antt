use Rattle.std.proofs.Common.{ap, sym, ◌∙◌, rules}
use Rattle.dsr_boxes.specs.View.{actor_in, log_in}
use Rattle.dsr_boxes.proofs.Looking.{remembers_as, shows_as}
use Rattle.dsr_boxes.proofs.Parts.{some_words}
use Rattle.dsr_boxes.proofs.pass.Pass.moment.Goals as goal

pub load-requires : goal.load-requires
load-requires c = (
  search rules,
  some_words c.boxes.inside.memory.shared.table_id.words _ c.boxes.invariant.1.0,
  remembers_as c.self.inside.token.me.0.shape c.boxes.inside.memory.shared.key c.boxes.inside.memory.shared.table_id.slots c.self.inside.token.id 0
      (ap (λ p. p.shape) c.self.view_is ∙ (c.requires.boxes.1 ∙ (sym (ap (λ b. b.shape) c.boxes.view_is) ∙ sym c.boxes.invariant.0)))
      c.self.inside.actor (log_in c.self.inside.token.me.0.part) c.self.inside.token.me c.self.invariant.0,
)

pub split_seat-token-requires : goal.split_seat-token-requires
split_seat-token-requires c =
    let told = c.load.ensures.2 in let part = c.self.inside.token.me.0.part in (
      search rules,
      some_words c.boxes.inside.memory.shared.table_id.words _ c.boxes.invariant.1.0,
      shows_as c.self.inside.token.me.0.shape c.boxes.inside.memory.shared.key c.load.new.seat.id
          (ap (λ p. p.shape) c.self.view_is ∙ (c.requires.boxes.1 ∙ (sym (ap (λ b. b.shape) c.boxes.view_is) ∙ sym c.boxes.invariant.0)))
          (actor_in part) (log_in part) told.0 c.load.new.seat.me.0 (ap (λ m. m.0) told.3),
    )

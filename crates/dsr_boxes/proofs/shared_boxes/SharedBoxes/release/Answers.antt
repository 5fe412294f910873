use Rattle.std.proofs.Common.{None, Some, ap, sym, ◌∙◌, rules}
use Rattle.dsr_boxes.specs.View.{log_in}
use Rattle.dsr_boxes.proofs.Told.{releases_as, held_is, taken_out}
use Rattle.dsr_boxes.proofs.shared_boxes.SharedBoxes.release.Goals as goal

pub exchange-content-requires : goal.exchange-content-requires
exchange-content-requires c = (
  search rules,
  (
    Some c.requires.full.0,
    held_is c.args.self.now.shape c.args.me.now c.args.from.now (log_in c.args.token.now.me.0.part) c.args.token.now.me c.slot_of.result (Some c.requires.full.0)
        c.requires.full.1 c.slot_of.ensures.same,
  ),
)

pub compare_exchange-requires : goal.compare_exchange-requires
compare_exchange-requires c =
    let log = log_in c.args.token.now.me.0.part in (
      search rules,
      search rules,
      releases_as c.args.self.now.shape c.self.inside.memory.shared.key c.self.inside.memory.shared.table_id.slots c.exchange-content.new.seat.id c.word_of-word.result
          c.args.me.now c.args.from.now log c.exchange-content.new.seat.me (sym (ap (λ b. b.shape) c.self.view_is) ∙ sym c.self.invariant.0) c.requires.me c.requires.from c.word_of-word.ensures.same
          (taken_out c.args.self.now.shape c.args.me.now c.args.from.now log c.args.token.now.me c.exchange-content.new.seat.me c.slot_of.result (Some c.requires.full.0) None
          c.requires.full.1 c.slot_of.ensures.same c.exchange-content.ensures.3),
    )

use Rattle.std.proofs.Common.{Some, ap, sym, ◌∙◌, rules}
use Rattle.dsr_boxes.specs.View.{log_in}
use Rattle.dsr_boxes.proofs.Told.{publishes_as, put_in}
use Rattle.dsr_boxes.proofs.shared_boxes.SharedBoxes.publish.Goals as goal

pub compare_exchange-requires : goal.compare_exchange-requires
compare_exchange-requires c =
    let log = log_in c.args.token.now.me.0.part in (
      search rules,
      search rules,
      publishes_as c.args.self.now.shape c.self.inside.memory.shared.key c.self.inside.memory.shared.table_id.slots c.exchange-nothing.new.seat.id c.word_of-word.result
          c.args.me.now c.args.to.now log c.exchange-nothing.new.seat.me (sym (ap (λ b. b.shape) c.self.view_is) ∙ sym c.self.invariant.0) c.requires.me c.requires.to
          c.args.parcel c.requires.conduct c.requires.few c.word_of-word.ensures.same
          (put_in c.args.self.now.shape c.args.me.now c.args.to.now log c.args.token.now.me c.exchange-nothing.new.seat.me c.slot_of.result (Some c.args.parcel)
          c.requires.fills c.slot_of.ensures.same c.exchange-nothing.ensures.3),
    )

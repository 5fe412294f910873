use Rattle.std.proofs.Common.{◌∙◌, ap, sym, arith}
use Rattle.dsr_slot.specs.SlotState.{with_chain}
use Rattle.dsr_notes.proofs.ReadingLemmas.{next_read, next_skipped}
use Rattle.dsr_notes.proofs.reading.after_reading.Goals as goal
use Rattle.dsr_notes.proofs.reading.after_reading.Goals.{then-slot+in_ok-try_copy, else-slot}

pub loop-chain-preserved : goal.loop-chain-preserved
loop-chain-preserved c =
    let s = c.args.state.now in
    let l = c.loop-chain in
    let chain = c.chain-item.result in
    elim c.if-slot.branch [
      | then-slot+in_ok-try_copy w ↦
          w.after-is
          ∙ (w.read.ensures.read
          ∙ (ap (with_chain l.after) w.in_ok-try_copy.ensures.same
          ∙ next_read s l.after c.args.chains.now l.chain-index chain l.invariant (omega arith) c.chain-item.is))
      | else-slot w ↦
          w.after-is
          ∙ next_skipped s l.after c.args.chains.now l.chain-index chain l.invariant (omega arith) c.chain-item.is
          (λ of. w.if-slot.false (c.slot.ensures ∙ (of ∙ sym c.slot-in-loop-chain.ensures)))
    ]

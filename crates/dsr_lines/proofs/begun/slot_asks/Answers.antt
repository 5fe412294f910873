use Rattle.std.proofs.Common.{ap, sym, ◌∙◌}
use Rattle.dsr_lines.proofs.BegunLemmas.{step_of_other, step_of_slot}
use Rattle.dsr_lines.proofs.begun.slot_asks.Goals as goal
use Rattle.dsr_lines.proofs.begun.slot_asks.Goals.{then-slot, else-slot}

pub loop-chain-preserved : goal.loop-chain-preserved
loop-chain-preserved c =
    let slot = c.args.slot in
    let chains = c.args.chains.now in
    let i = c.loop-chain.chain-index in
    let chain = c.chain-item.result in
    let asks = c.if-slot.asks.now in
    elim c.if-slot.branch [
      | then-slot w ↦ step_of_slot slot chains i chain asks c.loop-chain-test.true c.chain-item.is (sym c.slot.ensures ∙ w.if-slot.true)
          (ap (λ b. b.now) w.asks-is ∙ w.signed-asks.ensures.same)
      | else-slot w ↦ step_of_other slot chains i chain asks c.loop-chain-test.true c.chain-item.is (λ same. w.if-slot.false (c.slot.ensures ∙ same))
          (ap (λ b. b.now) w.asks-is ∙ c.loop-chain.invariant)
    ]

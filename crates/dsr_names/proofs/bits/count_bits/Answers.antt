use Rattle.std.proofs.Common.{◌∙◌, arith}
use Rattle.dsr_names.proofs.BitLemmas.{count_set, count_clear}
use Rattle.dsr_names.proofs.bits.count_bits.Goals as goal
use Rattle.dsr_names.proofs.bits.count_bits.Goals.{then-bits-i-eq1, else-bits-i-eq1}

pub loop-i-preserved : goal.loop-i-preserved
loop-i-preserved c =
    elim c.if-bits-i-eq1.branch [
      | then-bits-i-eq1 w ↦ (w.count-is ∙ count_set c.args.bits c.loop-i.i c.loop-i.count w.if-bits-i-eq1.true c.loop-i.invariant.0, omega arith)
      | else-bits-i-eq1 w ↦ (w.count-is ∙ count_clear c.args.bits c.loop-i.i c.loop-i.count w.if-bits-i-eq1.false c.loop-i.invariant.0, omega arith)
    ]

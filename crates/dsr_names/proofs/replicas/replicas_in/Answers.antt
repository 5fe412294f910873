use Rattle.std.proofs.Common.{◌≡◌, ◌++◌, ◌∷◌, [], ◌∙◌, length, ap, sym, arith}
use Rattle.dsr_base.specs.Bits.{is_bit_set}
use Rattle.dsr_names.specs.ShapeText.{numbers_below, replicas_of}
use Rattle.dsr_names.proofs.ReplicaSets.{next_set, next_clear, count_numbers}
use Rattle.dsr_names.proofs.replicas.replicas_in.Goals as goal
use Rattle.dsr_names.proofs.replicas.replicas_in.Goals.{then-bits-number-eq1, else-bits-number-eq1}

pub push-requires : goal.push-requires
push-requires c =
    let few = count_numbers (is_bit_set c.args.bits) c.loop-number.number in
    let same = ap length c.loop-number.invariant in
    omega (arith, few, same)

pub loop-number-preserved : goal.loop-number-preserved
loop-number-preserved c =
    let i = c.loop-number.number in
    elim c.if-bits-number-eq1.branch [
      | then-bits-number-eq1 w ↦
          w.replicas-is ∙ w.push.ensures ∙ ap (λ rs. rs ++ w.of.result ∷ []) c.loop-number.invariant
          ∙ ap (λ r. numbers_below (is_bit_set c.args.bits) i ++ r ∷ []) w.of.ensures ∙ sym (next_set c.args.bits i w.if-bits-number-eq1.true)
      | else-bits-number-eq1 w ↦ w.replicas-is ∙ c.loop-number.invariant ∙ sym (next_clear c.args.bits i w.if-bits-number-eq1.false)
    ]

pub returns : goal.returns
unfolding replicas_of
returns c =
    let all : c.loop-number.number ≡ 16 = omega arith in
    c.loop-number.invariant ∙ ap (numbers_below (is_bit_set c.args.bits)) all

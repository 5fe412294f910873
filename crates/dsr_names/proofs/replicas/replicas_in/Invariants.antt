use Rattle.std.proofs.Common.{◌≡◌}
use Rattle.dsr_base.specs.Bits.{is_bit_set}
use Rattle.dsr_names.specs.ShapeText.{numbers_below}
use Rattle.dsr_names.proofs.replicas.replicas_in.Given as goal

-- the replicas so far
abbrev pub invariant-loop-number : goal.invariant-loop-number
invariant-loop-number l = l.replicas ≡ numbers_below (is_bit_set l.bits) l.number

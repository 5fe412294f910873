use Rattle.std.proofs.Common.{◌≡◌, ◌≤◌}
use Rattle.dsr_base.specs.Bits.{is_bit_set, count_below}
use Rattle.dsr_names.proofs.bits.count_bits.Given as goal

abbrev pub invariant-loop-i : goal.invariant-loop-i
invariant-loop-i l = (l.count ≡ count_below (is_bit_set l.bits) l.i) × (l.count ≤ l.i)

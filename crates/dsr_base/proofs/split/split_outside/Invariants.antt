use Rattle.std.proofs.Common.{◌≡◌, false, take}
use Rattle.dsr_base.specs.Split.{IsFree, is_inside_after}
use Rattle.dsr_base.proofs.split.split_outside.Given as goal

-- no mark so far is outside parentheses, and the flag says whether the next byte is in them
abbrev pub invariant-loop-i : goal.invariant-loop-i
invariant-loop-i l = record {
  free : IsFree l.mark false (take l.i l.bytes);
  inside : l.inside ≡ is_inside_after false (take l.i l.bytes);
}

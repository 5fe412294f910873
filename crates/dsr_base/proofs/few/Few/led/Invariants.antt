use Rattle.std.proofs.Common.{◌≡◌, ◌∷◌, take}
use Rattle.dsr_base.proofs.few.Few.led.Given as goal

abbrev pub invariant-loop-item : goal.invariant-loop-item
invariant-loop-item g l = l.list ≡ l.fn.first ∷ take l.item-index l.rest

use Rattle.std.proofs.Common.{◌≢◌}
use Rattle.std.specs.Prelude.{take, All}
use Rattle.dsr_script.proofs.building.key_of.Given as goal

abbrev pub invariant-loop-key : goal.invariant-loop-key
invariant-loop-key l = All (λ holder. holder ≢ l.signer) (take l.key-index l.keys)

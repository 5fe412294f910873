use Rattle.std.proofs.Common.{◌≡◌}
use Rattle.std.specs.Prelude.{take}
use Rattle.dsr_envelope.proofs.chains.Chains.try_copy.Given as goal

-- copied are the chains so far
abbrev pub invariant-loop-chain : goal.invariant-loop-chain
invariant-loop-chain l = l.items.items ≡ take l.chain-index l.chain-items

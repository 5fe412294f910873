use Rattle.std.specs.Prelude.{take, All}
use Rattle.dsr_script.specs.Support.Carried.{IsHeldChain}
use Rattle.dsr_script.proofs.building.are_chains_held.Given as goal

abbrev pub invariant-loop-chain : goal.invariant-loop-chain
invariant-loop-chain l = All (IsHeldChain l.keys l.known.signatures) (take l.chain-index l.chains)

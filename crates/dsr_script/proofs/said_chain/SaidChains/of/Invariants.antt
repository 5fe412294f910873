use Rattle.std.proofs.Common.{All, ◌≡◌}
use Rattle.std.specs.Prelude.{take}
use Rattle.dsr_script.specs.ChainText.{IsSpelledChain}
use Rattle.dsr_script.proofs.said_chain.SaidChains.of.Given as goal

abbrev pub invariant-loop-chain : goal.invariant-loop-chain
invariant-loop-chain l = (l.items.items ≡ take l.chain-index l.chains) × All IsSpelledChain l.items.items

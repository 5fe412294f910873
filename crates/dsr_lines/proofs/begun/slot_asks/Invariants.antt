use Rattle.std.proofs.Common.{◌≡◌, []}
use Rattle.std.specs.Prelude.{take}
use Rattle.dsr_lines.specs.Begun.{slot_asks}
use Rattle.dsr_lines.proofs.begun.slot_asks.Given as goal

-- the requests in the last of the chains so far that is of the slot
abbrev pub invariant-loop-chain : goal.invariant-loop-chain
invariant-loop-chain l = l.asks ≡ slot_asks l.slot [] (take l.chain-index l.chains)

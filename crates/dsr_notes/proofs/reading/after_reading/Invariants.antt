use Rattle.std.proofs.Common.{◌≡◌, suc, take}
use Rattle.dsr_slot.specs.Keeping.{keep}
use Rattle.dsr_notes.proofs.reading.after_reading.Given as goal

-- the chains so far are read
abbrev pub invariant-loop-chain : goal.invariant-loop-chain
invariant-loop-chain l =
    l.after ≡ record l.state { kept = keep l.state.shape l.state.slot (suc l.state.closed) l.state.kept (take l.chain-index l.chains) }

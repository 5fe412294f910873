use Rattle.std.proofs.Common.{◌≡◌, ◌≤◌, ◌+◌, ◌*◌}
use Rattle.std.specs.Prelude.{take, flat_map}
use Rattle.dsr_script.specs.Support.Carried.{on_chain}
use Rattle.dsr_script.specs.Support.Noted.{noted_all}
use Rattle.dsr_script.proofs.known.Known.note_chains.Given as goal

abbrev pub invariant-loop-chain : goal.invariant-loop-chain
invariant-loop-chain l =
    (l.self.signatures ≡ noted_all l.initial.self.signatures (flat_map on_chain (take l.chain-index l.chains)))
    × (l.initial.self.room ≤ l.self.room + l.chain-index * 24)

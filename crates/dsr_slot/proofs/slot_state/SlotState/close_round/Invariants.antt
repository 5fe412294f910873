use Rattle.std.proofs.Common.{◌≡◌, suc, ◌++◌}
use Rattle.std.specs.Vec.Iter.{drain_items, drain_kept}
use Rattle.dsr_slot.specs.Keeping.{keep}
use Rattle.dsr_slot.proofs.slot_state.SlotState.close_round.Given as goal

abbrev pub invariant-loop-chain : goal.invariant-loop-chain
invariant-loop-chain l =
    (goal.iterator-loop-chain).can_next l.chain-iterator ×
    (goal.iterator-loop-chain).is_finite l.chain-iterator ×
    (l.self ≡ record (l.initial.self) { kept = keep l.initial.self.shape l.initial.self.slot (suc l.initial.self.closed) l.initial.self.kept l.yielded }) ×
    (l.yielded ++ drain_items l.chain-iterator ≡ drain_items l.initial.chain-iterator) ×
    (drain_kept l.chain-iterator ≡ drain_kept l.initial.chain-iterator)

use Rattle.dsr_chain.proofs.Sameness.{slot_value_eq-Decides}
use Rattle.dsr_chain.proofs.slot_value.SlotValue.same.Goals as goal

pub returns : goal.returns
returns c = rw c.eq.ensures (slot_value_eq-Decides c.args.self.now c.args.other.now)

use Rattle.std.proofs.Common.{suc}
use Rattle.dsr_slot.proofs.Fates.{kept_by_fate}
use Rattle.dsr_slot.proofs.slot_state.SlotState.fate.Goals as goal

pub returns-clause-keeps : goal.returns-clause-keeps
returns-clause-keeps c =
    kept_by_fate c.args.self.now.shape c.args.self.now.slot (suc c.args.self.now.closed) c.args.self.now.kept c.args.chain.now c.fate_of.result
    c.fate_of.ensures

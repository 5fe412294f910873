use Rattle.std.proofs.Common.{◌∙◌}
use Rattle.dsr_chain.specs.ProperTest.{is_proper}
use Rattle.dsr_chain.proofs.Lemmas.{is_proper-Decides}
use Rattle.dsr_slot.proofs.KeepLemmas.{same_test}
use Rattle.dsr_slot.proofs.slot_state.SlotState.is_proper.Goals as goal

pub returns : goal.returns
returns c =
    let state = c.self.inside in
    let chain = c.args.chain.now in
    rw (← c.self.view_is)
    (c.is_ok.ensures.value ∙ same_test _ (is_proper state.shape state.slot c.args.round chain) (is_proper-Decides state.shape state.slot c.args.round chain)
    c.check.ensures.proper)

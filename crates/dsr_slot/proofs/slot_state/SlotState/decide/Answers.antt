use Rattle.std.proofs.Common.{◌≡◌, ap, ◌∙◌, Some}
use Rattle.dsr_chain.specs.declared.slot_value.SlotValue.TheVariants.{Idle}
use Rattle.dsr_slot.specs.Decision.{decision}
use Rattle.dsr_slot.proofs.Standing.{decides_what_stands}
use Rattle.dsr_slot.proofs.slot_state.SlotState.decide.Goals.{in_default-via-in-Some+in_default, in_default-via-in_default}
use Rattle.dsr_slot.proofs.slot_state.SlotState.decide.Goals as goal

pub returns-in-Some-None-clause-stands : goal.returns-in-Some-None-clause-stands
returns-in-Some-None-clause-stands c =
    let state = c.args.self.now in
    let one : c.in-Some-None.kept.chain.value ≡ decision state.kept = rw (← c.self.view_is, c.in-Some-None.is-0, c.in-Some-None.is-1) in
    λ read stands last. ap Some (c.value.ensures ∙ (one ∙ decides_what_stands state read stands last))

pub returns-in_default-clause-stands : goal.returns-in_default-clause-stands
returns-in_default-clause-stands c =
    let state = c.args.self.now in
    let idle : Idle ≡ decision state.kept =
    elim c.in_default.branch [
      | in_default-via-in-Some+in_default w ↦ rw (← c.self.view_is, w.in_default.is-0, w.in_default.is-1)
      | in_default-via-in_default w ↦ rw (← c.self.view_is, w.in_default.is-0, c.self.invariant.in_order w.in_default.is-0)
    ] in
    λ read stands last. ap Some (idle ∙ decides_what_stands state read stands last)

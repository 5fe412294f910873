use Rattle.std.proofs.Common.{◌≡◌, suc, ◌+◌, ◌∙◌, ap, add-one}
use Rattle.dsr_slot.specs.Keeping.{keep_one}
use Rattle.dsr_slot.specs.SlotState.{with_chain}
use Rattle.dsr_slot.proofs.Standing.{reads_one}
use Rattle.dsr_slot.proofs.slot_state.SlotState.read.Goals as goal

pub returns-clause-stands : goal.returns-clause-stands
returns-clause-stands c =
    let before = c.args.self.now in
    let round : c.self.inside.closed + 1 ≡ suc before.closed = add-one c.self.inside.closed ∙ ap (λ s. suc s.closed) c.self.view_is in
    let one : c.keep.new.self ≡ with_chain before c.args.chain =
    c.keep.ensures ∙ ap (λ r. record before { kept = keep_one before.shape before.slot r before.kept c.args.chain }) round in
    λ earlier later more stands. reads_one before c.keep.new.self c.args.chain earlier later one more stands

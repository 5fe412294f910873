use Rattle.std.proofs.Common.{rules, ◌≡◌, ◌∙◌}
use Rattle.dsr_slot.specs.Decision.{decision}
use Rattle.dsr_slot.proofs.Standing.{decides_what_stands}
use Rattle.dsr_slot.proofs.slot_state.SlotState.into_decision.Goals as goal

pub returns-clause-stands : goal.returns-clause-stands
returns-clause-stands c =
    let one : c.match-self.result ≡ decision c.args.self.kept = search rules in
    λ read stands. one ∙ decides_what_stands c.args.self read stands c.requires.last

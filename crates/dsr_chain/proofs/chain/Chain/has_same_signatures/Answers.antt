use Rattle.std.proofs.Common.{◌≡◌, ◌↔◌, IsTrue, ap, sym, ◌∙◌}
use Rattle.std.specs.Arc.{arc_value}
use Rattle.dsr_chain.proofs.Keeping.{kept_in_turn, kept_given, both_in_turn, one_misfits}
use Rattle.dsr_chain.proofs.chain.Chain.has_same_signatures.Goals as goal

pub returns-in-InTurn-InTurn : goal.returns-in-InTurn-InTurn
returns-in-InTurn-InTurn c =
    let h = kept_in_turn c.args.self.now (arc_value c.self.inside.body).slot (arc_value c.self.inside.body).value (arc_value c.self.inside.body).signatures c.in-InTurn-InTurn.ours c.self.view_is
    c.self.invariant (ap (λ b. b.signatures) (sym c.deref.ensures) ∙ c.in-InTurn-InTurn.is-0) in
    let k = kept_in_turn c.args.other.now (arc_value c.other.inside.body).slot (arc_value c.other.inside.body).value (arc_value c.other.inside.body).signatures c.in-InTurn-InTurn.theirs c.other.view_is
    c.other.invariant (ap (λ b. b.signatures) (sym c.deref-2.ensures) ∙ c.in-InTurn-InTurn.is-1) in
    let tests : IsTrue c.same.result ↔ (c.in-InTurn-InTurn.ours.signers ≡ c.in-InTurn-InTurn.theirs.signers) = (
      λ t. sym c.signers.ensures ∙ (c.same.ensures.0 t ∙ c.signers-in-InTurn-InTurn.ensures),
      λ e. c.same.ensures.1 (c.signers.ensures ∙ (e ∙ sym c.signers-in-InTurn-InTurn.ensures)),
    ) in
    both_in_turn c.args.self.now c.args.other.now c.in-InTurn-InTurn.ours c.in-InTurn-InTurn.theirs c.same.result h k c.requires.slot c.requires.value tests

pub returns-in-InTurn-Given : goal.returns-in-InTurn-Given
returns-in-InTurn-Given c =
    let h = kept_in_turn c.args.self.now (arc_value c.self.inside.body).slot (arc_value c.self.inside.body).value (arc_value c.self.inside.body).signatures c.in-InTurn-Given.field-0-0 c.self.view_is
    c.self.invariant (ap (λ b. b.signatures) (sym c.deref.ensures) ∙ c.in-InTurn-Given.is-0) in
    let k = kept_given c.args.other.now (arc_value c.other.inside.body).slot (arc_value c.other.inside.body).value (arc_value c.other.inside.body).signatures c.in-InTurn-Given.field-0-1 c.other.view_is
    c.other.invariant (ap (λ b. b.signatures) (sym c.deref-2.ensures) ∙ c.in-InTurn-Given.is-1) in (
      λ t. cc,
      λ e. absurd (one_misfits c.args.self.now c.args.other.now c.in-InTurn-Given.field-0-0 h k.misfit c.requires.slot c.requires.value e),
    )

pub returns-in-Given-InTurn : goal.returns-in-Given-InTurn
returns-in-Given-InTurn c =
    let h = kept_given c.args.self.now (arc_value c.self.inside.body).slot (arc_value c.self.inside.body).value (arc_value c.self.inside.body).signatures c.in-Given-InTurn.field-0-0 c.self.view_is
    c.self.invariant (ap (λ b. b.signatures) (sym c.deref.ensures) ∙ c.in-Given-InTurn.is-0) in
    let k = kept_in_turn c.args.other.now (arc_value c.other.inside.body).slot (arc_value c.other.inside.body).value (arc_value c.other.inside.body).signatures c.in-Given-InTurn.field-0-1 c.other.view_is
    c.other.invariant (ap (λ b. b.signatures) (sym c.deref-2.ensures) ∙ c.in-Given-InTurn.is-1) in (
      λ t. cc,
      λ e. absurd (one_misfits c.args.other.now c.args.self.now c.in-Given-InTurn.field-0-1 k h.misfit (sym c.requires.slot) (sym c.requires.value) (sym e)),
    )

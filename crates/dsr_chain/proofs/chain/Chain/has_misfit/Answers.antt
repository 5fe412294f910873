use Rattle.std.proofs.Common.{ap, sym, ◌∙◌}
use Rattle.std.specs.Arc.{arc_value}
use Rattle.dsr_chain.proofs.Keeping.{kept_in_turn, never_misfits}
use Rattle.dsr_chain.proofs.chain.Chain.has_misfit.Goals as goal

pub returns-in-InTurn : goal.returns-in-InTurn
returns-in-InTurn c =
    let h = kept_in_turn c.args.self.now (arc_value c.self.inside.body).slot (arc_value c.self.inside.body).value (arc_value c.self.inside.body).signatures c.in-InTurn.field-0 c.self.view_is
    c.self.invariant (ap (λ b. b.signatures) (sym c.deref.ensures) ∙ c.in-InTurn.is) in
    (λ t. cc, λ misfit. absurd (never_misfits c.args.self.now c.in-InTurn.field-0 h misfit))

use Rattle.std.proofs.Common.{ap, sym, ◌∙◌}
use Rattle.std.specs.Arc.{arc_value}
use Rattle.dsr_chain.specs.Chain.{signers_of}
use Rattle.dsr_chain.proofs.Keeping.{kept_in_turn, signers_in_turn}
use Rattle.dsr_chain.proofs.chain.Chain.signers.Goals as goal

pub returns-in-InTurn : goal.returns-in-InTurn
returns-in-InTurn c =
    let h = kept_in_turn c.args.self.now (arc_value c.self.inside.body).slot (arc_value c.self.inside.body).value (arc_value c.self.inside.body).signatures c.in-InTurn.links c.self.view_is
    c.self.invariant (ap (λ b. b.signatures) (sym c.deref.ensures) ∙ c.in-InTurn.is) in
    c.signers.ensures ∙ (sym (signers_in_turn c.in-InTurn.links) ∙ ap signers_of h.are)

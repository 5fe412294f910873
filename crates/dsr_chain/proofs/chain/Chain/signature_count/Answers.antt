use Rattle.std.proofs.Common.{length, ap, sym, ◌∙◌}
use Rattle.std.specs.Arc.{arc_value}
use Rattle.dsr_chain.proofs.Keeping.{kept_in_turn, count_in_turn}
use Rattle.dsr_chain.proofs.chain.Chain.signature_count.Goals as goal

pub returns-in-InTurn-clause-same : goal.returns-in-InTurn-clause-same
returns-in-InTurn-clause-same c =
    let h = kept_in_turn c.args.self.now (arc_value c.self.inside.body).slot (arc_value c.self.inside.body).value (arc_value c.self.inside.body).signatures c.in-InTurn.links c.self.view_is
    c.self.invariant (ap (λ b. b.signatures) (sym c.deref.ensures) ∙ c.in-InTurn.is) in
    c.len.ensures.same ∙ (ap length c.signers.ensures ∙ (sym (count_in_turn c.in-InTurn.links) ∙ ap length h.are))

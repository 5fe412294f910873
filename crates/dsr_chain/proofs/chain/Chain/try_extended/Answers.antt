use Rattle.std.proofs.Common.{◌≡◌, arith, length, ap, sym, ◌∙◌}
use Rattle.std.proofs.lemmas.Result.{IfOk-weaker}
use Rattle.std.specs.Arc.{arc_value}
use Rattle.dsr_desk.specs.Links.{signatures_of}
use Rattle.dsr_chain.specs.Chain.{chain_of, extended as extended_chain}
use Rattle.dsr_chain.proofs.Keeping.{kept_in_turn, count_in_turn, made_extended}
use Rattle.dsr_chain.proofs.chain.Chain.try_extended.Goals as goal

pub extend-requires : goal.extend-requires
extend-requires c =
    let h = kept_in_turn c.args.self.now (arc_value c.self.inside.body).slot (arc_value c.self.inside.body).value (arc_value c.self.inside.body).signatures c.in-InTurn.links c.self.view_is
    c.self.invariant (ap (λ b. b.signatures) (sym c.deref-2.ensures) ∙ c.in-InTurn.is) in
    omega (arith, c.requires, count_in_turn c.in-InTurn.links, ap length h.are)

pub returns-in_ok-extend-in-InTurn-clause-extended : goal.returns-in_ok-extend-in-InTurn-clause-extended
returns-in_ok-extend-in-InTurn-clause-extended c =
    let h = kept_in_turn c.args.self.now (arc_value c.self.inside.body).slot (arc_value c.self.inside.body).value (arc_value c.self.inside.body).signatures c.in-InTurn.links c.self.view_is
    c.self.invariant (ap (λ b. b.signatures) (sym c.deref-2.ensures) ∙ c.in-InTurn.is) in
    let value = c.in_ok-value.value in
    let value_is : value ≡ c.args.self.now.value =
    c.in_ok-value.ensures.same ∙ (ap (λ b. b.value) c.deref.ensures ∙ ap (λ x. x.value) c.self.view_is) in
    IfOk-weaker c.share.result (λ made. made ≡ chain_of c.slot.result value (signatures_of c.in_ok-extend-in-InTurn.field-0))
    (λ made. made ≡ extended_chain c.args.self.now c.args.key.now)
    (λ made is.
    made_extended c.args.self.now made c.in-InTurn.links c.args.key.now c.slot.result value h c.slot.ensures value_is
    (is ∙ ap (λ l. chain_of c.slot.result value (signatures_of l)) c.in_ok-extend-in-InTurn.ensures.extended)) c.share.ensures.made

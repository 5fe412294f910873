use Rattle.std.proofs.Common.{arith, length, get_or, refl, ap, sym, ◌∙◌}
use Rattle.std.proofs.lemmas.Option.{slice_get_read}
use Rattle.std.specs.Arc.{arc_value}
use Rattle.dsr_chain.proofs.Keeping.{kept_in_turn, kept_given, count_in_turn}
use Rattle.dsr_chain.proofs.chain.Chain.signature.Goals as goal

pub signature-requires : goal.signature-requires
signature-requires c =
    let h = kept_in_turn c.args.self.now (arc_value c.self.inside.body).slot (arc_value c.self.inside.body).value (arc_value c.self.inside.body).signatures c.in-InTurn.links c.self.view_is
    c.self.invariant (ap (λ b. b.signatures) (sym c.deref.ensures) ∙ c.in-InTurn.is) in
    omega (arith, c.requires, count_in_turn c.in-InTurn.links, ap length h.are)

pub returns-in-Given : goal.returns-in-Given
returns-in-Given c =
    let h = kept_given c.args.self.now (arc_value c.self.inside.body).slot (arc_value c.self.inside.body).value (arc_value c.self.inside.body).signatures c.in-Given.list c.self.view_is
    c.self.invariant (ap (λ b. b.signatures) (sym c.deref.ensures) ∙ c.in-Given.is) in
    slice_get_read c.args.self.now.signatures (length c.args.self.now.signatures) c.args.place c.index.result.now refl c.requires
    (c.index.ensures ∙ ap (λ xs. get_or xs c.args.place c.index.result.now) h.are)

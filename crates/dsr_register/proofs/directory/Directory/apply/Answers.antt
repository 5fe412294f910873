use Rattle.std.proofs.Common.{◌∙◌, sym, subst, ap, ◌∷◌}
use Rattle.dsr_register.specs.Values.{answer_after}
use Rattle.dsr_register.specs.Table.{StandsFor}
use Rattle.dsr_request.specs.declared.op.Op.TheVariants.{Write, Swap}
use Rattle.dsr_register.proofs.ValueLemmas.{stands_after, answer_stands}
use Rattle.dsr_register.proofs.directory.Directory.apply.Goals as goal

pub returns-in-Write-clause-answer : goal.returns-in-Write-clause-answer
returns-in-Write-clause-answer c ops stands =
    c.write.ensures.answer ∙ (answer_stands c.args.self.now (Write c.in-Write.name c.in-Write.value) ops c.write.ensures.distinct stands
    ∙ ap (answer_after ops) (sym c.in-Write.is))

pub returns-in-Write-clause-change : goal.returns-in-Write-clause-change
returns-in-Write-clause-change c ops stands =
    subst (λ op. StandsFor c.write.new.self (op ∷ ops)) (sym c.in-Write.is)
    (stands_after c.args.self.now c.write.new.self (Write c.in-Write.name c.in-Write.value) ops c.write.ensures.distinct stands c.write.ensures.contents)

pub returns-in-Swap-clause-answer : goal.returns-in-Swap-clause-answer
returns-in-Swap-clause-answer c ops stands =
    c.swap.ensures.answer ∙ (answer_stands c.args.self.now (Swap c.in-Swap.name c.in-Swap.from c.in-Swap.to) ops c.swap.ensures.distinct stands
    ∙ ap (answer_after ops) (sym c.in-Swap.is))

pub returns-in-Swap-clause-change : goal.returns-in-Swap-clause-change
returns-in-Swap-clause-change c ops stands =
    subst (λ op. StandsFor c.swap.new.self (op ∷ ops)) (sym c.in-Swap.is)
    (stands_after c.args.self.now c.swap.new.self (Swap c.in-Swap.name c.in-Swap.from c.in-Swap.to) ops c.swap.ensures.distinct stands c.swap.ensures.contents)

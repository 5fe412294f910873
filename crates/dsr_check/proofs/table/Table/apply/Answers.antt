use Rattle.std.proofs.Common.{◌≡◌, ◌∙◌, ap, rules, nat_le, length}
use Rattle.dsr_register.specs.Table.{held_in}
use Rattle.dsr_check.proofs.Applying.{stays, applied, answered}
use Rattle.dsr_check.proofs.table.Table.apply.Goals as goal
use Rattle.dsr_check.proofs.table.Table.apply.Goals.{then-ne, else-ne}

pub returns-clause-answer : goal.returns-clause-answer
returns-clause-answer c ops stands =
    c.answers.ensures
    ∙ answered c.args.self.now c.args.op.now ops c.name-name.result c.get-held.result _ c.get-held.ensures.order c.name-name.ensures.same c.get-held.ensures.held (ap (nat_le 1024) (c.len-full.ensures.value ∙ ap length c.self.view_is)) stands

pub returns-clause-change : goal.returns-clause-change
returns-clause-change c ops stands =
    applied c.args.self.now c.if-ne.self c.args.op.now ops c.name-name.result c.get-held.result c.leaves-left.result _ c.get-held.ensures.order c.name-name.ensures.same
    c.get-held.ensures.held (ap (nat_le 1024) (c.len-full.ensures.value ∙ ap length c.self.view_is)) c.leaves-left.ensures
    (elim c.if-ne.branch [
      | then-ne w ↦ λ q. ap (λ t. held_in t q) w.self-is ∙ w.put.ensures q
      | else-ne w ↦ λ q.
          let same : c.leaves-left.result ≡ c.get-held.result = search rules in
          ap (λ t. held_in t q) w.self-is ∙ stays c.args.self.now c.name-name.result c.get-held.result c.leaves-left.result c.get-held.ensures.held same q
    ]) stands

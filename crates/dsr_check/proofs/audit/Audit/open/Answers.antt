use Rattle.std.proofs.Common.{◌≡◌, ◌+◌, ◌∙◌, ap₂, subst}
use Rattle.dsr_base.specs.Boxes.{AreSquare}
use Rattle.dsr_check.proofs.Opening.{opened}
use Rattle.dsr_check.proofs.audit.Audit.open.Goals as goal

pub returns-clause-stands : goal.returns-clause-stands
returns-clause-stands c =
    let shape = c.args.shape in
    let size : c.n.result + c.m.result ≡ shape.n + shape.m = ap₂ (λ a b. a + b) c.n.ensures.same c.m.ensures.same in
    opened shape c.in_ok-made.made.parties.items c.in_ok-boxes.boxes c.in_ok-notary.notary.items c.in_ok-made.made.traitors.items c.new-2.result.signatures
    c.in_ok-firsts.firsts.items c.in_ok-made.ensures.parties c.in_ok-notary.ensures.all c.in_ok-made.ensures.traitors
    (subst (λ k. AreSquare k c.in_ok-boxes.boxes) size c.in_ok-boxes.ensures.square) c.in_ok-boxes.ensures.empty c.new-2.ensures.none
    (c.in_ok-firsts.ensures.count ∙ size) c.in_ok-firsts.ensures.none

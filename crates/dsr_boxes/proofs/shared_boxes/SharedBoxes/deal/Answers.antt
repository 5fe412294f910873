use Rattle.std.proofs.Common.{rules, ◌∙◌, ◌-◌, ap, arith}
use Rattle.dsr_names.specs.Places.{size}
use Rattle.dsr_boxes.proofs.Dealing.{positive, dealt_none, next_held, dealt_more, dealt_all}
use Rattle.dsr_boxes.proofs.shared_boxes.SharedBoxes.deal.Goals as goal

pub loop-left-init : goal.loop-left-init
loop-left-init c = dealt_none c.args.self.now c.args.token.table_id c.args.token.me c.size-left.result c.in_ok-passes.passes.items c.requires.id c.requires.all (c.size-left.ensures.same ∙ ap (λ b. size b.shape) c.self.view_is) c.in_ok-passes.ensures.items

pub part-pass-requires-clause-id : goal.part-pass-requires-clause-id
part-pass-requires-clause-id c = c.loop-left.invariant.id_is

pub part-pass-requires-clause-place : goal.part-pass-requires-clause-place
part-pass-requires-clause-place c = let low = c.loop-left.invariant.low in let some = c.loop-left-test.true in omega (arith, low, some)

pub part-pass-requires-clause-all : goal.part-pass-requires-clause-all
part-pass-requires-clause-all c =
    next_held c.args.self.now c.loop-left.token.table_id c.loop-left.token.me c.loop-left.left (c.loop-left.left - 1) c.loop-left.passes.items
    (positive c.loop-left.left c.loop-left-test.true) c.loop-left.invariant

pub loop-left-preserved : goal.loop-left-preserved
loop-left-preserved c =
    dealt_more c.args.self.now c.loop-left.token.table_id c.loop-left.token.me c.part-pass.new.token.me c.part-pass.new.token.table_id c.loop-left.left (c.loop-left.left - 1) c.loop-left.passes.items
    c.push.new.self.items c.part-pass.result (positive c.loop-left.left c.loop-left-test.true) c.loop-left.invariant c.part-pass.ensures.id c.part-pass.ensures.rest c.part-pass.ensures.pass (search rules)

pub returns-clause-passes : goal.returns-clause-passes
returns-clause-passes c =
    c.reverse.ensures.items ∙ dealt_all c.args.self.now c.loop-left.token.table_id c.loop-left.token.me c.loop-left.left c.loop-left.passes.items c.loop-left-test.false c.loop-left.invariant

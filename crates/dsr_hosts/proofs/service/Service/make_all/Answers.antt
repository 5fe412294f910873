use Rattle.std.proofs.Common.{◌∙◌}
use Rattle.dsr_hosts.proofs.Calling.{calls_all, calls_more}
use Rattle.dsr_hosts.proofs.Operations.{at_end, left_at, makes_next}
use Rattle.dsr_hosts.proofs.service.Service.make_all.Goals as goal

pub loop-op-preserved : goal.loop-op-preserved
loop-op-preserved g c = (
  makes_next c.args.seat.now c.loop-op.seat c.make.new.seat c.ops-op-items.result.now c.loop-op.op-index c.op-item.result c.loop-op-test.true
      c.op-item.is c.loop-op.invariant.0 c.make.ensures.log c.in_ok-make.ensures.made,
  calls_more (g.G.Gate.may_pass c.args.self.now.host.gate.now) c.args.seat.now c.loop-op.seat c.make.new.seat 0 c.loop-op.turn.number
      c.make.new.turn.number c.ops-op-items.result.now c.loop-op.op-index c.op-item.result c.loop-op-test.true c.op-item.is c.loop-op.invariant.1
      c.in_ok-make.ensures.calls,
)

pub returns-in_err-make-clause-unserved : goal.returns-in_err-make-clause-unserved
returns-in_err-make-clause-unserved g c =
    at_end c.from_residual.result (left_at c.args.self.now.script.now c.loop-op.seat c.make.new.seat c.ops-op-items.result.now c.loop-op.op-index c.client.result
    (c.make.ensures.log.actor ∙ (c.loop-op.invariant.0.0.actor ∙ c.client.ensures.same)) c.ops-op-items.ensures c.loop-op-test.true
    c.loop-op.invariant.0.1 c.in_err-make.ensures.same)

pub returns-clause-calls : goal.returns-clause-calls
returns-clause-calls g c = (
  c.loop-op.turn.number,
  calls_all (g.G.Gate.may_pass c.args.self.now.host.gate.now) c.args.self.now.script.now c.args.seat.now c.loop-op.seat c.loop-op.turn.number
      c.ops-op-items.result.now c.loop-op.op-index c.client.result c.client.ensures.same c.ops-op-items.ensures c.loop-op-test.false
      c.loop-op.invariant.1,
)

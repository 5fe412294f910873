use Rattle.std.proofs.Common.{suc, inr, refl}
use Rattle.std.specs.Prelude.{Ok, Err}
use Rattle.dsr_hosts.proofs.Calling.{ends_at_gate, calls_once, calls_in_vain}
use Rattle.dsr_hosts.proofs.Operations.{at_end, goes_on, goes_same, same_on_way}
use Rattle.dsr_hosts.proofs.Making.{first_making}
use Rattle.dsr_hosts.proofs.service.Service.make.Goals as goal

pub returns-in_err-pass-clause-same : goal.returns-in_err-pass-clause-same
returns-in_err-pass-clause-same g c =
    at_end c.from_residual.result (same_on_way c.args.op.now c.args.seat.now c.loop.seat c.loop.invariant.0.goes c.loop.invariant.0.way)

pub loop-init : goal.loop-init
loop-init g c = (first_making c.args.op.now c.args.seat.now c.requires.idle (goes_same c.args.seat.now), (0, (refl, refl)))

pub returns-in_err-pass-clause-calls : goal.returns-in_err-pass-clause-calls
returns-in_err-pass-clause-calls g c = (
  c.loop.invariant.1.0,
  c.loop.seat,
  c.loop.turn.number,
  c.loop.invariant.1.1,
  ends_at_gate (g.G.Gate.may_pass c.args.self.now.host.gate.now) c.args.op.now c.loop.seat c.loop.turn.number c.pass.new.turn.number
      c.from_residual.result c.from_residual.ensures.0 c.pass.ensures.later,
)

pub returns-in-Ok-clause-calls : goal.returns-in-Ok-clause-calls
returns-in-Ok-clause-calls g c = (
  c.loop.invariant.1.0,
  c.loop.seat,
  c.loop.turn.number,
  c.loop.invariant.1.1,
  calls_once (g.G.Gate.may_pass c.args.self.now.host.gate.now) c.args.op.now c.loop.seat c.call.new.seat c.loop.turn.number c.pass.new.turn.number
      c.actor.result (Ok tt) c.actor.ensures.same c.in_ok-pass.ensures.passed c.in_ok-pass.ensures.next c.in-Ok.ensures.course,
)

pub returns-then-is_last-clause-calls : goal.returns-then-is_last-clause-calls
returns-then-is_last-clause-calls g c = (
  c.loop.invariant.1.0,
  c.loop.seat,
  c.loop.turn.number,
  c.loop.invariant.1.1,
  inr (calls_in_vain (g.G.Gate.may_pass c.args.self.now.host.gate.now) c.args.op.now c.loop.seat c.call.new.seat c.loop.turn.number c.pass.new.turn.number
      c.actor.result c.in-Err-Unanswered.field-0 c.actor.ensures.same c.in_ok-pass.ensures.passed c.in_ok-pass.ensures.next
      c.in-Err-Unanswered.field-0-is c.in-Err-Unanswered.ensures.course),
)

pub returns-in-Err-clause-calls : goal.returns-in-Err-clause-calls
returns-in-Err-clause-calls g c = (
  c.loop.invariant.1.0,
  c.loop.seat,
  c.loop.turn.number,
  c.loop.invariant.1.1,
  inr (calls_once (g.G.Gate.may_pass c.args.self.now.host.gate.now) c.args.op.now c.loop.seat c.call.new.seat c.loop.turn.number c.pass.new.turn.number
      c.actor.result (Err c.in-Err.refusal) c.actor.ensures.same c.in_ok-pass.ensures.passed c.in_ok-pass.ensures.next c.in-Err.ensures.course),
)

pub returns-in-Ok-clause-log : goal.returns-in-Ok-clause-log
returns-in-Ok-clause-log g c = goes_on c.call.new.seat c.loop.seat c.args.seat.now c.call.ensures.log c.loop.invariant.0.goes

pub returns-then-is_last-clause-log : goal.returns-then-is_last-clause-log
returns-then-is_last-clause-log g c = goes_on c.call.new.seat c.loop.seat c.args.seat.now c.call.ensures.log c.loop.invariant.0.goes

pub returns-then-is_last-clause-same : goal.returns-then-is_last-clause-same
returns-then-is_last-clause-same g c =
    same_on_way c.args.op.now c.args.seat.now c.call.new.seat
    (goes_on c.call.new.seat c.loop.seat c.args.seat.now c.call.ensures.log c.loop.invariant.0.goes)
    (c.in-Err-Unanswered.ensures.awaited c.args.seat.now c.loop.invariant.0)

pub loop-preserved : goal.loop-preserved
loop-preserved g c = (
  record {
    goes = goes_on c.call.new.seat c.loop.seat c.args.seat.now c.call.ensures.log c.loop.invariant.0.goes;
    idle = c.loop.invariant.0.idle;
    way = c.in-Err-Unanswered.ensures.awaited c.args.seat.now c.loop.invariant.0;
  },
  (
    suc c.loop.invariant.1.0,
    (
      c.loop.seat,
      c.loop.turn.number,
      c.loop.invariant.1.1,
      calls_in_vain (g.G.Gate.may_pass c.args.self.now.host.gate.now) c.args.op.now c.loop.seat c.call.new.seat c.loop.turn.number c.pass.new.turn.number
          c.actor.result c.in-Err-Unanswered.field-0 c.actor.ensures.same c.in_ok-pass.ensures.passed c.in_ok-pass.ensures.next
          c.in-Err-Unanswered.field-0-is c.in-Err-Unanswered.ensures.course,
    ),
  ),
)

pub returns-in-Err-clause-log : goal.returns-in-Err-clause-log
returns-in-Err-clause-log g c = goes_on c.call.new.seat c.loop.seat c.args.seat.now c.call.ensures.log c.loop.invariant.0.goes

pub returns-in-Err-clause-same : goal.returns-in-Err-clause-same
returns-in-Err-clause-same g c =
    same_on_way c.args.op.now c.args.seat.now c.call.new.seat
    (goes_on c.call.new.seat c.loop.seat c.args.seat.now c.call.ensures.log c.loop.invariant.0.goes)
    (c.in-Err.ensures.awaited c.args.seat.now c.loop.invariant.0)

pub returns-in-Err-clause-end : goal.returns-in-Err-clause-end
returns-in-Err-clause-end g c = c.in-Err.ensures.refused

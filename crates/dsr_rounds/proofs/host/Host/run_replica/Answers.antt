use Rattle.std.proofs.Common.{refl}
use Rattle.dsr_rounds.proofs.Rounds.{duty_same, duty_further, duty_goes, duty_owes, duty_eager, none_closed, round_step}
use Rattle.dsr_rounds.proofs.Turns.{first_turns}
use Rattle.dsr_rounds.proofs.host.Host.run_replica.Goals as goal

pub loop-round-init : goal.loop-round-init
loop-round-init g c = (duty_same c.args.seat.now c.args.seat.now refl, none_closed c.args.seat.now, first_turns (g.G.Gate.may_pass c.args.self.now.gate.now) c.args.seat.now c.first-turn.result.number c.first-turn.ensures)

pub loop-round-preserved : goal.loop-round-preserved
loop-round-preserved g c =
    let step = round_step c.args.seat.now c.loop-round.seat c.make_round.new.seat c.loop-round.round c.loop-round.invariant.0 c.make_round.ensures.duty
    c.loop-round.invariant.1 c.in_ok-make_round.ensures.closed in
    (step.0, step.1, c.make_round.ensures.turns c.args.seat.now c.loop-round.invariant.2)

pub returns-in_err-make_round-clause-log : goal.returns-in_err-make_round-clause-log
returns-in_err-make_round-clause-log g c =
    duty_goes c.make_round.new.seat c.args.seat.now
    (duty_further c.make_round.new.seat c.loop-round.seat c.args.seat.now c.make_round.ensures.duty c.loop-round.invariant.0)

pub returns-in_err-make_round-clause-answers : goal.returns-in_err-make_round-clause-answers
returns-in_err-make_round-clause-answers g c =
    duty_owes c.make_round.new.seat c.args.seat.now
    (duty_further c.make_round.new.seat c.loop-round.seat c.args.seat.now c.make_round.ensures.duty c.loop-round.invariant.0)

pub returns-clause-log : goal.returns-clause-log
returns-clause-log g c = duty_goes c.loop-round.seat c.args.seat.now c.loop-round.invariant.0

pub returns-in_err-make_round-clause-turns : goal.returns-in_err-make_round-clause-turns
returns-in_err-make_round-clause-turns g c =
    (c.make_round.new.turn.number, c.make_round.ensures.turns c.args.seat.now c.loop-round.invariant.2)

pub returns-clause-turns : goal.returns-clause-turns
returns-clause-turns g c = (c.loop-round.turn.number, c.loop-round.invariant.2)

pub returns-in_err-make_round-clause-eager : goal.returns-in_err-make_round-clause-eager
returns-in_err-make_round-clause-eager g c =
    duty_eager c.make_round.new.seat c.args.seat.now
    (duty_further c.make_round.new.seat c.loop-round.seat c.args.seat.now c.make_round.ensures.duty c.loop-round.invariant.0)

pub returns-clause-eager : goal.returns-clause-eager
returns-clause-eager g c = duty_eager c.loop-round.seat c.args.seat.now c.loop-round.invariant.0

pub returns-clause-answers : goal.returns-clause-answers
returns-clause-answers g c = duty_owes c.loop-round.seat c.args.seat.now c.loop-round.invariant.0

use Rattle.std.proofs.Common.{refl}
use Rattle.dsr_rounds.proofs.Scripts.{round_step, none_yet, between_on}
use Rattle.dsr_rounds.proofs.Going.{goes_same, goes_further}
use Rattle.dsr_rounds.proofs.Turns.{first_turns}
use Rattle.dsr_rounds.specs.Traitors.{count_at}
use Rattle.dsr_rounds.proofs.host.Host.run_traitor.Goals as goal

pub loop-round-init : goal.loop-round-init
loop-round-init g c = (
  goes_same c.args.seat.now c.args.seat.now refl,
  none_yet c.args.script.now c.args.seat.now,
  first_turns (g.G.Gate.may_pass c.args.self.now.gate.now) c.args.seat.now c.first-turn.result.number c.first-turn.ensures,
)

pub returns-clause-between : goal.returns-clause-between
returns-clause-between g c was =
    between_on c.args.script.now (count_at c.loop-round.round 0) c.args.seat.now c.loop-round.seat c.loop-round.invariant.1 was

pub returns-in_err-make_scripted_round-clause-log : goal.returns-in_err-make_scripted_round-clause-log
returns-in_err-make_scripted_round-clause-log g c =
    goes_further c.make_scripted_round.new.seat c.loop-round.seat c.args.seat.now c.make_scripted_round.ensures.log c.loop-round.invariant.0

pub loop-round-preserved : goal.loop-round-preserved
loop-round-preserved g c =
    let step = round_step c.args.script.now c.loop-round.round c.args.seat.now c.loop-round.seat c.make_scripted_round.new.seat c.loop-round.invariant.0
    c.make_scripted_round.ensures.log c.loop-round.invariant.1 c.in_ok-make_scripted_round.ensures.made in
    (step.0, step.1, c.make_scripted_round.ensures.turns c.args.seat.now c.loop-round.invariant.2)

pub returns-in_err-make_scripted_round-clause-follows : goal.returns-in_err-make_scripted_round-clause-follows
returns-in_err-make_scripted_round-clause-follows g c =
    c.in_err-make_scripted_round.ensures.follows c.args.seat.now c.loop-round.invariant.1

pub returns-clause-follows : goal.returns-clause-follows
returns-clause-follows g c = (count_at c.loop-round.round 0, count_at c.loop-round.round 0, c.loop-round.invariant.1)

pub returns-in_err-make_scripted_round-clause-turns : goal.returns-in_err-make_scripted_round-clause-turns
returns-in_err-make_scripted_round-clause-turns g c =
    (c.make_scripted_round.new.turn.number, c.make_scripted_round.ensures.turns c.args.seat.now c.loop-round.invariant.2)

pub returns-clause-turns : goal.returns-clause-turns
returns-clause-turns g c = (c.loop-round.turn.number, c.loop-round.invariant.2)

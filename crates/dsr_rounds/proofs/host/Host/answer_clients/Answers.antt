use Rattle.std.proofs.Common.{refl}
use Rattle.dsr_rounds.proofs.Rounds.{keeps_same, keeps_further}
use Rattle.dsr_rounds.proofs.host.Host.answer_clients.Goals as goal

pub loop-number-init : goal.loop-number-init
loop-number-init g c = (keeps_same c.args.seat.now c.args.seat.now refl, λ first was. was)

pub returns-in_err-answer_client-clause-kept : goal.returns-in_err-answer_client-clause-kept
returns-in_err-answer_client-clause-kept g c =
    keeps_further c.answer_client.new.seat c.loop-number.seat c.args.seat.now c.answer_client.ensures.kept c.loop-number.invariant.0

pub loop-number-preserved : goal.loop-number-preserved
loop-number-preserved g c = (
  keeps_further c.answer_client.new.seat c.loop-number.seat c.args.seat.now c.answer_client.ensures.kept c.loop-number.invariant.0,
  λ first was. c.answer_client.ensures.turns first (c.loop-number.invariant.1 first was),
)

pub returns-in_err-answer_client-clause-turns : goal.returns-in_err-answer_client-clause-turns
returns-in_err-answer_client-clause-turns g c first was = c.answer_client.ensures.turns first (c.loop-number.invariant.1 first was)

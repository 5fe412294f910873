use Rattle.dsr_rounds.proofs.Rounds.{duty_further}
use Rattle.dsr_rounds.proofs.host.Host.make_round.Goals as goal

pub returns-in_err-post_all-clause-duty : goal.returns-in_err-post_all-clause-duty
returns-in_err-post_all-clause-duty g c =
    duty_further c.post_all.new.seat c.take_from_clients.new.seat c.args.seat.now c.post_all.ensures.duty c.take_from_clients.ensures.kept.duty

pub returns-in_err-take_all-clause-duty : goal.returns-in_err-take_all-clause-duty
returns-in_err-take_all-clause-duty g c =
    duty_further c.take_all.new.seat c.post_all.new.seat c.args.seat.now c.take_all.ensures.duty
    (duty_further c.post_all.new.seat c.take_from_clients.new.seat c.args.seat.now c.post_all.ensures.duty c.take_from_clients.ensures.kept.duty)

pub returns-clause-duty : goal.returns-clause-duty
returns-clause-duty g c =
    duty_further c.answer_clients.new.seat c.take_all.new.seat c.args.seat.now c.answer_clients.ensures.kept.duty
    (duty_further c.take_all.new.seat c.post_all.new.seat c.args.seat.now c.take_all.ensures.duty
    (duty_further c.post_all.new.seat c.take_from_clients.new.seat c.args.seat.now c.post_all.ensures.duty c.take_from_clients.ensures.kept.duty))

pub returns-in_err-take_from_clients-clause-turns : goal.returns-in_err-take_from_clients-clause-turns
returns-in_err-take_from_clients-clause-turns g c first was = c.take_from_clients.ensures.turns first was

pub returns-in_err-post_all-clause-turns : goal.returns-in_err-post_all-clause-turns
returns-in_err-post_all-clause-turns g c first was = c.post_all.ensures.turns first (c.take_from_clients.ensures.turns first was)

pub returns-in_err-take_all-clause-turns : goal.returns-in_err-take_all-clause-turns
returns-in_err-take_all-clause-turns g c first was = c.take_all.ensures.turns first (c.post_all.ensures.turns first (c.take_from_clients.ensures.turns first was))

pub returns-clause-turns : goal.returns-clause-turns
returns-clause-turns g c first was = c.answer_clients.ensures.turns first (c.take_all.ensures.turns first (c.post_all.ensures.turns first (c.take_from_clients.ensures.turns first was)))

use Rattle.dsr_hosts.proofs.Making.{awaits_outstanding, answers_it, keeps_it}
use Rattle.dsr_hosts.proofs.service.Service.go_on_for.Goals as goal

pub returns-in-Ok-clause-answered : goal.returns-in-Ok-clause-answered
returns-in-Ok-clause-answered g c first making =
    let law = c.calls_follow_each_other.ensures in let seat = c.args.seat.now in
    answers_it law.answered c.args.op.now first seat c.go_on.new.seat c.in-Ok.field-0 making
    (c.in-Ok.ensures.answered _ (awaits_outstanding law.again c.args.op.now first seat making c.requires.outstanding))

pub returns-in-Err-clause-awaited : goal.returns-in-Err-clause-awaited
returns-in-Err-clause-awaited g c first making =
    let law = c.calls_follow_each_other.ensures in let seat = c.args.seat.now in
    keeps_it law.awaited c.args.op.now first seat c.go_on.new.seat making
    (c.in-Err.ensures.awaited _ (awaits_outstanding law.again c.args.op.now first seat making c.requires.outstanding))

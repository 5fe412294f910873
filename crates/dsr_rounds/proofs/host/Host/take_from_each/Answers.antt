use Rattle.std.proofs.Common.{◌≡◌, subst}
use Rattle.dsr_names.specs.declared.actor.Actor.TheVariants.{Replica}
use Rattle.dsr_envelope.specs.declared.entry.Entry.TheVariants.{Take}
use Rattle.dsr_boxes.specs.Pass.{with_entry}
use Rattle.dsr_rounds.proofs.Scripts.{at_end, take_step, stops_takes}
use Rattle.dsr_rounds.proofs.host.Host.take_from_each.Goals as goal

pub loop-number-preserved : goal.loop-number-preserved
loop-number-preserved g c =
    let step = take_step c.args.round c.loop-number.number c.args.seat.now c.loop-number.seat c.take_sent.new.seat c.in_ok-take_sent.ensures.taken.0 c.loop-number.invariant.0
    (subst (λ p. c.take_sent.new.seat ≡ with_entry c.loop-number.seat (Take (Replica p) c.in_ok-take_sent.ensures.taken.0)) c.of.ensures c.in_ok-take_sent.ensures.taken.1)
    c.loop-number.invariant.1 in
    (step.0, step.1, λ first was. c.take_sent.ensures.turns first (c.loop-number.invariant.2 first was))

pub returns-in_err-take_sent-clause-follows : goal.returns-in_err-take_sent-clause-follows
returns-in_err-take_sent-clause-follows g c =
    at_end c.from_residual.result
    (stops_takes c.args.round c.loop-number.number c.args.seat.now c.loop-number.seat c.take_sent.new.seat c.loop-number.invariant.1
    c.in_err-take_sent.ensures.unchanged)

pub returns-in_err-take_sent-clause-turns : goal.returns-in_err-take_sent-clause-turns
returns-in_err-take_sent-clause-turns g c first was = c.take_sent.ensures.turns first (c.loop-number.invariant.2 first was)

use Rattle.std.proofs.Common.{◌≡◌, ◌<◌, refl, ap, ◌∙◌, sym, subst}
use Rattle.dsr_names.specs.Shape.{Shape, IsAllowed}
use Rattle.dsr_names.specs.declared.actor.Actor.TheVariants.{Replica}
use Rattle.dsr_envelope.specs.declared.entry.Entry.TheVariants.{Take}
use Rattle.dsr_envelope.specs.Log.{rounds}
use Rattle.dsr_boxes.specs.Pass.{with_entry}
use Rattle.dsr_rounds.proofs.Rounds.{duty_same, first_take, take_step}
use Rattle.dsr_rounds.proofs.host.Host.take_all.Goals as goal

pub loop-number-init : goal.loop-number-init
loop-number-init g c = (
  duty_same c.args.seat.now c.args.seat.now refl,
  first_take c.args.seat.now c.in-Take.first c.number-number.result
      (subst IsAllowed (c.shape.ensures ∙ sym c.requires.mail.1) c.n-number-end.ensures.allowed) c.in-Take.ensures.conduct c.in-Take.ensures.same c.number-number.ensures.same,
  λ first was. was,
)

pub loop-number-preserved : goal.loop-number-preserved
loop-number-preserved g c =
    let step = take_step c.args.seat.now c.loop-number.seat c.take_from.new.seat c.loop-number.number (rounds c.args.seat.now.shape c.args.seat.now.log)
    c.in_ok-take_from.ensures.taken.0 c.loop-number.invariant.0 (subst (λ k. c.loop-number.number < k) (c.n-number-end.ensures.same ∙ ap (λ (s : Shape). s.n) (c.shape.ensures ∙ sym c.requires.mail.1)) c.loop-number-test.true)
    c.loop-number.invariant.1 (subst (λ p. c.take_from.new.seat ≡ with_entry c.loop-number.seat (Take (Replica p) c.in_ok-take_from.ensures.taken.0)) c.of.ensures c.in_ok-take_from.ensures.taken.1) in
    (step.0, step.1, λ first was. c.take_from.ensures.turns first (c.loop-number.invariant.2 first was))

pub returns-in_err-take_from-clause-turns : goal.returns-in_err-take_from-clause-turns
returns-in_err-take_from-clause-turns g c first was = c.take_from.ensures.turns first (c.loop-number.invariant.2 first was)

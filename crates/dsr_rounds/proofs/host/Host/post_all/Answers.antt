use Rattle.std.proofs.Common.{◌≡◌, ◌<◌, ◌≤◌, refl, subst, ap, sym, ◌∙◌}
use Rattle.dsr_names.specs.Shape.{Shape}
use Rattle.dsr_names.specs.declared.actor.Actor.TheVariants.{Replica}
use Rattle.dsr_envelope.specs.declared.entry.Entry.TheVariants.{Post}
use Rattle.dsr_envelope.specs.Log.{due}
use Rattle.dsr_boxes.specs.Pass.{with_entry}
use Rattle.dsr_rounds.specs.Eagerness.{IsEagerPost}
use Rattle.dsr_rounds.proofs.Rounds.{duty_same, post_step, taking_at}
use Rattle.dsr_rounds.proofs.host.Host.post_all.Goals as goal

pub loop-number-init : goal.loop-number-init
loop-number-init g c = (duty_same c.args.seat.now c.args.seat.now refl, c.next_post-first.ensures, refl, λ first was. was)

pub loop-number-preserved : goal.loop-number-preserved
loop-number-preserved g c =
    let x = c.in_ok-post_next.ensures.posted.0 in
    let step = post_step c.args.seat.now c.loop-number.seat c.post_next.new.seat c.loop-number.number x c.loop-number.invariant.0
    (subst (λ k. c.loop-number.number < k) (c.n-number-end.ensures.same ∙ ap (λ (s : Shape). s.n) (c.shape-shape.ensures ∙ sym c.requires.mail.1)) c.loop-number-test.true) c.loop-number.invariant.2
    (subst (λ p. c.post_next.new.seat ≡ with_entry c.loop-number.seat (Post (Replica p) x)) c.of.ensures c.in_ok-post_next.ensures.posted.1)
    (subst (λ p. IsEagerPost c.loop-number.seat p x) c.of.ensures c.in_ok-post_next.ensures.posted.2) in
    (step.0, step.1, step.2, λ first was. c.post_next.ensures.turns first (c.loop-number.invariant.3 first was))

pub returns-clause-posted : goal.returns-clause-posted
returns-clause-posted g c =
    taking_at c.args.seat.now.shape.n c.loop-number.number (due c.loop-number.seat.shape c.loop-number.seat.log)
    (subst (λ k. k ≤ c.loop-number.number) (c.n-number-end.ensures.same ∙ ap (λ (s : Shape). s.n) (c.shape-shape.ensures ∙ sym c.requires.mail.1)) c.loop-number-test.false)
    c.loop-number.invariant.1

pub returns-in_err-post_next-clause-turns : goal.returns-in_err-post_next-clause-turns
returns-in_err-post_next-clause-turns g c first was = c.post_next.ensures.turns first (c.loop-number.invariant.3 first was)

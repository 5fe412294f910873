use Rattle.std.proofs.Common.{◌≡◌, ◌<◌, subst, ap, sym, ◌∙◌}
use Rattle.dsr_names.specs.Shape.{Shape}
use Rattle.dsr_names.specs.declared.actor.Actor.TheVariants.{Replica}
use Rattle.dsr_envelope.specs.declared.entry.Entry.TheVariants.{Post}
use Rattle.dsr_boxes.specs.Pass.{with_entry}
use Rattle.dsr_rounds.specs.Traitors.{IsPlanned}
use Rattle.dsr_rounds.proofs.Scripts.{at_end, post_step, stops_posts}
use Rattle.dsr_rounds.proofs.host.Host.post_drafts.Goals as goal

pub loop-number-preserved : goal.loop-number-preserved
loop-number-preserved g c =
    let x = c.in_ok-post_planned.ensures.posted.0 in
    let was = c.loop-number.seat in
    let step = post_step c.args.script.now c.args.round c.loop-number.number c.args.seat.now was c.post_planned.new.seat x c.loop-number.invariant.0
    (subst (λ k. c.loop-number.number < k) (c.n-number-end.ensures.same ∙ ap (λ (s : Shape). s.n) (c.shape.ensures ∙ sym c.requires.mail.1)) c.loop-number-test.true)
    (subst (λ p. c.post_planned.new.seat ≡ with_entry was (Post (Replica p) x)) c.of.ensures c.in_ok-post_planned.ensures.posted.1)
    (subst (λ p. IsPlanned c.args.script.now was.shape was.actor was.log c.args.round p x) c.of.ensures c.in_ok-post_planned.ensures.posted.2)
    c.loop-number.invariant.1 in
    (step.0, step.1, λ start begun. c.post_planned.ensures.turns start (c.loop-number.invariant.2 start begun))

pub returns-in_err-post_planned-clause-follows : goal.returns-in_err-post_planned-clause-follows
returns-in_err-post_planned-clause-follows g c =
    at_end c.from_residual.result
    (stops_posts c.args.script.now c.args.round c.loop-number.number c.args.seat.now c.loop-number.seat c.post_planned.new.seat
    c.loop-number.invariant.1 c.in_err-post_planned.ensures.unchanged)

pub returns-in_err-post_planned-clause-turns : goal.returns-in_err-post_planned-clause-turns
returns-in_err-post_planned-clause-turns g c first was = c.post_planned.ensures.turns first (c.loop-number.invariant.2 first was)

use Rattle.dsr_envelope.specs.declared.pick.Pick.TheVariants.{Plain}
use Rattle.dsr_rounds.proofs.Rounds.{keeps_same, post_keeps}
use Rattle.dsr_rounds.proofs.host.Host.answer_client.Goals as goal

pub returns-clause-kept : goal.returns-clause-kept
returns-clause-kept g c =
    post_keeps c.args.client c.args.seat.now c.try_post.new.seat Plain c.in_ok-try_post.field-0 (c.owes.ensures.owed.0 c.if-not-owes.false)
    c.in_ok-try_post.ensures.tried

pub returns-in_err-try_post-clause-kept : goal.returns-in_err-try_post-clause-kept
returns-in_err-try_post-clause-kept g c = keeps_same c.try_post.new.seat c.args.seat.now c.in_err-try_post.ensures.unchanged

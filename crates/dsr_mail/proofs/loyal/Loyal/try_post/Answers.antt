use Rattle.std.proofs.Common.{◌∙◌, sym}
use Rattle.dsr_mail.proofs.Clearing.{may_post}
use Rattle.dsr_mail.proofs.loyal.Loyal.try_post.Goals as goal

pub post-requires-clause-conduct : goal.post-requires-clause-conduct
post-requires-clause-conduct c =
    may_post _ _ c.args.pick.now _ _ _ (rw (← c.shape.ensures) c.n-n.ensures.allowed) (rw (← c.actor-actor.ensures.same) c.actor-actor.ensures.inside)
    c.self.invariant.honest c.look_at.ensures.pick c.look_at.ensures.spelled
    (rw c.self.view_is (sym c.post_refusal.ensures ∙ c.in_default.is)) (rw c.self.view_is c.in-Ok.ensures.given)

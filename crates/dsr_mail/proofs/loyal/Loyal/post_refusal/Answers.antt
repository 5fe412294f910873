use Rattle.std.proofs.Common.{◌≡◌, false, ◌∙◌, sym}
use Rattle.std.specs.Option.{is_none}
use Rattle.dsr_node.specs.Conduct.{post_of, is_exhausted, are_clients}
use Rattle.dsr_mail.specs.Refusals.{is_spent}
use Rattle.dsr_mail.proofs.Clearing.{refused_by_conduct, actor_decides}
use Rattle.dsr_mail.proofs.loyal.Loyal.post_refusal.Goals as goal

pub returns-in-Some : goal.returns-in-Some
returns-in-Some c =
    let seat = c.self.inside.seat in
    let to = c.args.to.now in
    let pick = c.args.pick.now in
    let by = c.refusal.ensures.same _ _ _ c.self.invariant.plays in
    let other = (actor_decides seat.shape to).1 (rw c.shape.ensures at (c.has.ensures.0 c.if-not-has.false)) in
    let roles : are_clients seat.actor to ≡ false = cc in
    rw (← c.self.view_is) (refused_by_conduct _ _ (is_none (post_of seat.shape seat.log seat.actor to pick))
    (is_exhausted seat.shape seat.log seat.actor to pick) (is_spent seat.log to) _ other roles (sym c.in-Some.is ∙ by))

use Rattle.std.proofs.Common.{◌∙◌, ap, subst}
use Rattle.dsr_names.specs.Shape.{Shape, IsAllowed}
use Rattle.dsr_rounds.proofs.Rounds.{post_here, take_here}
use Rattle.dsr_rounds.proofs.replica.next_post.Goals as goal

pub returns-in-Post : goal.returns-in-Post
returns-in-Post c =
    post_here c.args.seat.now c.in-Post.to c.number.result (subst IsAllowed c.requires c.n-n.ensures.allowed) c.in-Post.ensures.conduct c.in-Post.ensures.same
    c.number.ensures.same

pub returns-in-Take : goal.returns-in-Take
returns-in-Take c =
    take_here c.args.seat.now c.in-Take.field-0 c.n-n.result c.in-Take.ensures.same (c.n-n.ensures.same ∙ ap (λ (s : Shape). s.n) c.requires)

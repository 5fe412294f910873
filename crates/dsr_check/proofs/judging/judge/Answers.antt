use Rattle.std.proofs.Common.{reverse}
use Rattle.dsr_check.proofs.HeadLemmas.{stuck}
use Rattle.dsr_check.proofs.judging.judge.Goals as goal

pub returns-then-not-have_moved : goal.returns-then-not-have_moved
returns-then-not-have_moved c = (
  λ no. cc,
  λ judged. let one = c.have_moved.ensures.one (λ all. cc) in
      absurd (stuck (reverse c.args.history.now) c.args.accepted.now one.0 _ _ one.2 one.3 (c.walked-moved.ensures.walked one.0 one.1) (judged.replies one.0)),
)

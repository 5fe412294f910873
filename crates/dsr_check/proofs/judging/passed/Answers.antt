use Rattle.std.proofs.Common.{◌≡◌, rules}
use Rattle.dsr_check.proofs.HeadLemmas.{moved_past, moved_not, at_end, other_reply}
use Rattle.dsr_check.proofs.judging.passed.Goals as goal
use Rattle.dsr_check.proofs.judging.passed.Goals.{else-head-accepted-via-then-head-accepted+else-eq, else-head-accepted-via-else-head-accepted}

pub returns-then-eq : goal.returns-then-eq
returns-then-eq c =
    let same : c.index-accepted-head.result.1 ≡ c.args.reply.now = search rules in
    moved_past c.args.accepted.now c.args.client c.args.reply.now c.args.head c.next_of.result c.index-accepted-head.result c.if-head-accepted.true
    c.index-accepted-head.is same c.next_of.ensures

pub returns-else-head-accepted : goal.returns-else-head-accepted
returns-else-head-accepted c = moved_not c.args.accepted.now c.args.client c.args.reply.now c.args.head c.requires.within c.requires.own
    (elim c.else-head-accepted.branch [
      | else-head-accepted-via-then-head-accepted+else-eq w ↦
          let other : ¬ (w.index-accepted-head.result.1 ≡ c.args.reply.now) = search rules in
          other_reply c.args.accepted.now c.args.reply.now c.args.head w.index-accepted-head.result w.if-head-accepted.true w.index-accepted-head.is other
      | else-head-accepted-via-else-head-accepted w ↦ at_end c.args.accepted.now c.args.reply.now c.args.head w.if-head-accepted.false
    ])

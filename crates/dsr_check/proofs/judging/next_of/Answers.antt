use Rattle.dsr_check.proofs.HeadLemmas.{next_more, next_end}
use Rattle.dsr_check.proofs.judging.next_of.Goals as goal

pub loop-place-preserved : goal.loop-place-preserved
loop-place-preserved c =
    next_more c.args.accepted.now c.args.client c.args.from c.loop-place.place c.number.result c.index-accepted-place.result c.loop-place-test.true
    c.index-accepted-place.is c.number.ensures.same c.if-number-client.false c.loop-place.invariant

pub returns : goal.returns
returns c =
    next_end c.args.accepted.now c.args.client c.args.from c.loop-place.place c.requires c.loop-place-test.false (c.loop-place.auto.place-end c.requires) c.loop-place.invariant

use Rattle.dsr_check.proofs.HeadLemmas.{done_more, in_all}
use Rattle.dsr_check.proofs.judging.are_done.Goals as goal

pub loop-entry-preserved : goal.loop-entry-preserved
loop-entry-preserved c =
    done_more c.args.accepted.now c.args.heads.now c.loop-entry.entry-index c.number.result c.entry-item.result c.loop-entry-test.true
    c.entry-item.is c.number.ensures.same c.number.ensures.small c.if-heads-number.false c.loop-entry.invariant

pub returns-clause-done : goal.returns-clause-done
returns-clause-done c all client reply inside =
    c.loop-entry.invariant client reply (in_all c.args.accepted.now c.loop-entry.entry-index (client, reply) c.loop-entry-test.false inside)

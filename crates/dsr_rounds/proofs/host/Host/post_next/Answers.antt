use Rattle.dsr_rounds.proofs.Proposing.{post_eager}
use Rattle.dsr_rounds.proofs.host.Host.post_next.Goals as goal

pub returns-clause-posted : goal.returns-clause-posted
returns-clause-posted g c =
    post_eager c.post_to.result c.args.seat.now c.post_to.new.seat c.args.to c.choice-pick.result c.choice-pick.ensures.eager c.post_to.ensures.posted

use Rattle.dsr_node.proofs.Playing.{loyal_given}
use Rattle.dsr_node.proofs.node.Node.envelope_for.Goals as goal

pub returns-in-Loyal-clause-given : goal.returns-in-Loyal-clause-given
returns-in-Loyal-clause-given c shape me log plays none =
    loyal_given shape me log _ _ _ _ (rw c.in-Loyal.is at plays) c.replica_envelope.ensures.given

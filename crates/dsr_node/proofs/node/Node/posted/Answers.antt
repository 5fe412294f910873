use Rattle.std.proofs.Common.{ap}
use Rattle.dsr_node.specs.Customer.{Customer}
use Rattle.dsr_node.proofs.Playing.{allows, begun_plays}
use Rattle.dsr_node.proofs.node.Node.posted.Goals as goal

pub posted-requires : goal.posted-requires
posted-requires c = allows _ _ _ (rw (c.in-Loyal.is, c.in-Replica.is) at c.requires)

pub returns-in-Begin : goal.returns-in-Begin
returns-in-Begin c = record {
  plays = λ shape me log envelope plays none e.
      begun_plays shape me log envelope _ _ _ _ (rw c.in-Client.is at plays) (rw c.in-Begin.is at e) c.begin.ensures.me c.begin.ensures.shape
      c.begin.ensures.begun (ap (λ (x : Customer). x.accepted) c.begin.ensures.rest);
}

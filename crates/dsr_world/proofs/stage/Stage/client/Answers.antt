use Rattle.std.proofs.Common.{rules}
use Rattle.dsr_world.proofs.StageLemmas.{IsNodeOf, client_found}
use Rattle.dsr_world.proofs.stage.Stage.client.Goals.{After-index}
use Rattle.dsr_world.proofs.stage.Stage.client.Goals as goal

found : (c : After-index) → IsNodeOf c.args.self.now c.args.client c.index.result.now
found c = client_found c.self.inside c.self.view_is c.self.invariant _ c.if-number-m.false c.number.ensures.same c.m.ensures.same c.place.ensures c.index.ensures

pub client-requires : goal.client-requires
client-requires c = (found (goal.at.client-requires c).After-index).0

pub returns : goal.returns
returns c =
    let is = c.client.ensures _ _ _ (found (goal.at.returns c).After-index).1 in
    record { stands = is.2; me = is.0; shape = is.1; when = search rules; refusal = search rules }

use Rattle.std.proofs.Common.{ap}
use Rattle.dsr_run.specs.History.{accepted_by, history}
use Rattle.dsr_run.specs.Step.{log_of}
use Rattle.dsr_world.specs.World.{World}
use Rattle.dsr_world.proofs.world.World.accepted.Goals as goal

pub returns : goal.returns
returns c =
    let by_client = ap (λ (w : World). accepted_by w.shape (log_of w.run) c.args.client) c.self.view_is in
    let same = ap (λ (w : World). history w.shape (log_of w.run)) c.self.view_is in
    rw (← by_client, ← same, ← c.self.view_is) c.accepted.ensures

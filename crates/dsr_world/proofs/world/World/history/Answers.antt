use Rattle.std.proofs.Common.{ap}
use Rattle.dsr_run.specs.History.{history}
use Rattle.dsr_run.specs.Step.{log_of}
use Rattle.dsr_world.specs.World.{World}
use Rattle.dsr_world.proofs.world.World.history.Goals as goal

pub returns-clause-grew : goal.returns-clause-grew
returns-clause-grew c earlier =
    let same = ap (λ (w : World). history w.shape (log_of w.run)) c.self.view_is in
    let was = ap (λ (w : World). history w.shape (log_of earlier)) c.self.view_is in
    rw (← same, ← was, ← c.self.view_is) (c.history.ensures.grew earlier)

use Rattle.dsr_names.specs.declared.actor.Actor.TheVariants.{Replica}
use Rattle.dsr_run.specs.Step.{log_of}
use Rattle.dsr_world.proofs.stage.Stage.decided.Goals as goal

pub returns-in-Ok-clause-same : goal.returns-in-Ok-clause-same
returns-in-Ok-clause-same c =
    let is = c.in-Ok.ensures.plays in
    rw is.shape_is at (c.decided.ensures.stands (log_of c.args.self.now.run (Replica c.args.replica)) is.stands)

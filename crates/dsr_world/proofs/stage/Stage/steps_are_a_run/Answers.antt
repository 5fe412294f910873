use Rattle.dsr_world.proofs.stage.Stage.steps_are_a_run.Goals as goal

pub returns : goal.returns
returns c = rw (← c.self.view_is) c.self.invariant.0.is_run

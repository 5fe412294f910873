use Rattle.std.proofs.Common.{◌∙◌}
use Rattle.dsr_world.proofs.Keeping.{still_of}
use Rattle.dsr_world.proofs.world.World.step.Goals as goal

pub returns-clause-refused : goal.returns-clause-refused
returns-clause-refused c = rw (← c.self.view_is) c.step_in.ensures.refused

pub returns-clause-forged : goal.returns-clause-forged
returns-clause-forged c = rw (← c.self.view_is) c.step_in.ensures.forged

pub invariant_of-self : goal.invariant_of-self
invariant_of-self c = (
  c.step_in.ensures.kept ∙ c.self.invariant.0,
  still_of c.step_in.result c.self.inside.entries c.step_in.new.entries c.self.inside.stage c.step_in.new.self c.step_in.ensures.kept c.step_in.ensures.added
      c.step_in.ensures.left c.step_in.ensures.unchanged c.self.invariant.1,
)

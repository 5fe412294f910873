use Rattle.std.proofs.Common.{◌∙◌}
use Rattle.dsr_world.proofs.world.World.run.Goals as goal

pub invariant_of-self : goal.invariant_of-self
invariant_of-self c = (c.run_in.ensures.kept ∙ c.self.invariant.0, c.run_in.ensures.added c.self.invariant.1)

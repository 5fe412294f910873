use Rattle.dsr_names.specs.declared.refusal.Refusal.TheVariants.{Forged}
use Rattle.dsr_run.specs.Step.{log_of}
use Rattle.dsr_world.proofs.WorldPosts.{forged_at_last}
use Rattle.dsr_world.proofs.stage.Stage.step_in.Goals as goal

pub returns-in-Plant-clause-forged : goal.returns-in-Plant-clause-forged
returns-in-Plant-clause-forged c =
    let w = c.args.self.now in
    rw c.in-Plant.is (
      λ e. forged_at_last w.shape (log_of w.run) c.in-Plant.from c.in-Plant.to c.in-Plant.draft (c.plant.ensures.last Forged e),
      c.plant.ensures.forged,
    )

pub returns-in-Plant-clause-last : goal.returns-in-Plant-clause-last
returns-in-Plant-clause-last c = rw c.in-Plant.is c.plant.ensures.last

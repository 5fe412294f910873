use Rattle.std.proofs.Common.{sym, subst}
use Rattle.std.specs.Prelude.{IfNone}
use Rattle.dsr_run.specs.Step.{log_of}
use Rattle.dsr_world.specs.Event.{MayBeDone}
use Rattle.dsr_facts.proofs.CauseLemmas.{none_done}
use Rattle.dsr_facts.proofs.cause.why_refused.Goals as goal

pub returns-in-Plant-clause-none : goal.returns-in-Plant-clause-none
returns-in-Plant-clause-none c =
    let w = c.args.stage.now in
    subst (λ e. IfNone c.plant_cause.result (MayBeDone w.shape (log_of w.run) e)) (sym c.in-Plant.is)
    (none_done w.shape (log_of w.run) c.in-Plant.from c.in-Plant.to c.in-Plant.draft c.plant_cause.result c.plant_cause.ensures.none c.plant_cause.ensures.forges)

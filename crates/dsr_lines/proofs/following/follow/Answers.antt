use Rattle.std.proofs.Common.{subst}
use Rattle.dsr_run.specs.Step.{log_of}
use Rattle.dsr_lines.specs.Support.Judged.{IsJudged}
use Rattle.dsr_lines.proofs.FaultLemmas.{fault_stops}
use Rattle.dsr_lines.proofs.following.follow.Goals as goal

pub returns-in-Not-clause-stops : goal.returns-in-Not-clause-stops
returns-in-Not-clause-stops c next =
    let w = c.args.stage.now in
    fault_stops w.shape w.run c.args.step.now c.in-Not.fault c.steps_are_a_run.ensures
    (subst (IsJudged w.shape (log_of w.run) c.args.step.now) c.in-Not.is c.in_ok-judged.ensures.judged) next

pub returns-in-Ok-clause-none : goal.returns-in-Ok-clause-none
returns-in-Ok-clause-none c =
    let w = c.args.stage.now in
    c.in-Ok.ensures.next c.args.step.now (subst (IsJudged w.shape (log_of w.run) c.args.step.now) c.in-May.is c.in_ok-judged.ensures.judged).0

use Rattle.std.proofs.Common.{subst}
use Rattle.dsr_names.specs.Shape.{HasFewTraitors}
use Rattle.dsr_run.proofs.Lemmas.{all_agree}
use Rattle.dsr_reports.proofs.report.write_decided.Goals as goal

-- the steps are a run, and at most f replicas are traitors
pub spelled_for-requires-clause-agree : goal.spelled_for-requires-clause-agree
spelled_for-requires-clause-agree c =
    let stage = c.args.stage.now in
    all_agree stage.shape stage.run (subst HasFewTraitors c.shape.ensures c.n-n.ensures.allowed.few_traitors) c.steps_are_a_run.ensures

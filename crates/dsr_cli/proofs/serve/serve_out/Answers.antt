use Rattle.dsr_cli.proofs.ServiceLemmas.{has_service}
use Rattle.dsr_cli.proofs.serve.serve_out.Goals as goal

pub returns-clause-served : goal.returns-clause-served
returns-clause-served g c =
    let law = c.logs_are_right.ensures in
    let came = c.serve-ended.ensures in
    let is = c.service_of.ensures in
    has_service c.args.text.now c.in-Ok.script c.in-Ok.ensures.script
    (λ shape logs few are. record {
      of_run = are;
      agree = law.agreement shape logs few are;
      right = λ client inside. law.replies shape logs few are client;
      legal = law.legal shape logs;
    })
    c.serve-ended.result c.service_of.result.logs c.service_of.result.cause came.shape came.run came.served came.owed came.eager came.planned
    came.fault_shape came.fault_run came.fault_owed came.fault_eager came.fault_planned came.cause
    is.served is.fault

use Rattle.dsr_run.proofs.Logs.{logs_grew}
use Rattle.dsr_run.proofs.Serving.{answered_in_run, answered_in_logs}
use Rattle.dsr_run.proofs.answered.clients_are_answered_in_time.Goals as goal

pub returns-clause-runs : goal.returns-clause-runs
returns-clause-runs c shape run moment few most is grown ask t held each =
    answered_in_run shape run moment few most is grown (logs_grew run moment grown) ask t held each

pub returns-clause-logs : goal.returns-clause-logs
returns-clause-logs c shape logs earlier few most are were grown ask t held each =
    answered_in_logs shape logs earlier few most are were grown ask t held each

use Rattle.dsr_run.proofs.Logs.{logs_step, no_logs}
use Rattle.dsr_run.proofs.laws.runs_go_on.Goals as goal

pub returns-clause-empty : goal.returns-clause-empty
returns-clause-empty c shape = no_logs shape

pub returns-clause-step : goal.returns-clause-step
returns-clause-step c shape logs step are next = logs_step shape logs step are next

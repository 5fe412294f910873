use Rattle.dsr_run.proofs.Linearizing.{linearized, logs_linearized}
use Rattle.dsr_run.proofs.headline.history_linearizes.Goals as goal

pub returns-clause-run : goal.returns-clause-run
returns-clause-run c shape run few is = linearized shape few run is

pub returns-clause-logs : goal.returns-clause-logs
returns-clause-logs c shape logs few = logs_linearized shape few logs

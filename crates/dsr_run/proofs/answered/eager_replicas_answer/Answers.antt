use Rattle.dsr_run.proofs.Answering.{acts_in_time, acts_in_logs}
use Rattle.dsr_run.proofs.answered.eager_replicas_answer.Goals as goal

pub returns-clause-runs : goal.returns-clause-runs
returns-clause-runs c shape few run is ask t held q loyal closed = acts_in_time shape run few is ask t held q loyal closed

pub returns-clause-logs : goal.returns-clause-logs
returns-clause-logs c shape logs few are ask t held q loyal closed = acts_in_logs shape logs few are ask t held q loyal closed

use Rattle.dsr_run.specs.Step.{log_of}
use Rattle.dsr_run.proofs.Histories.{history_extends, history_is, history_grows, history_legal}
use Rattle.dsr_run.proofs.Logs.{logs_grew}
use Rattle.dsr_run.proofs.laws.history_only_grows.Goals as goal

pub returns-clause-each : goal.returns-clause-each
returns-clause-each c shape run few is p loyal = history_extends shape few run is p loyal

pub returns-clause-one : goal.returns-clause-one
returns-clause-one c shape logs = history_is shape logs

pub returns-clause-times : goal.returns-clause-times
returns-clause-times c shape run earlier few is grown = history_grows shape few run is (log_of earlier) (logs_grew run earlier grown)

pub returns-clause-logs : goal.returns-clause-logs
returns-clause-logs c shape run earlier few is grown = history_grows shape few run is earlier grown

pub returns-clause-legal : goal.returns-clause-legal
returns-clause-legal c shape logs = history_legal shape logs

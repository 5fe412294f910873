use Rattle.dsr_run.specs.History.{history}
use Rattle.dsr_run.proofs.Linearizing.{strongly_linearized, logs_linearized, logs_places_rise}
use Rattle.dsr_run.proofs.headline.runs_are_linearizable.Goals as goal

pub returns-clause-strongly : goal.returns-clause-strongly
returns-clause-strongly c shape few = strongly_linearized shape few

pub returns-clause-logs : goal.returns-clause-logs
returns-clause-logs c shape logs few = (history shape logs, logs_linearized shape few logs)

pub returns-clause-moments : goal.returns-clause-moments
returns-clause-moments c shape logs earlier few are were grown first second reply later response not_yet response_later =
    logs_places_rise shape few logs earlier are were first second reply later grown response not_yet response_later

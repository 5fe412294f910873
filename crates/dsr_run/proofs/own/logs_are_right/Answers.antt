use Rattle.std.proofs.Common.{ap, subst}
use Rattle.dsr_names.specs.declared.actor.Actor.TheVariants.{Replica, Client}
use Rattle.dsr_replica.specs.Conduct.{IsLoyalLog}
use Rattle.dsr_replica.specs.Posts.{WasTaken}
use Rattle.dsr_client.specs.Conduct.{IsClientLog}
use Rattle.dsr_run.specs.Run.{IsMadeOrPosted}
use Rattle.dsr_run.proofs.LogLaws.{logs_agree, logs_answer, logs_box, logs_unforged}
use Rattle.dsr_run.proofs.Histories.{history_legal}
use Rattle.dsr_run.proofs.Logs.{log_loyal, log_client}
use Rattle.dsr_run.specs.History.{history}
use Rattle.dsr_run.proofs.own.logs_are_right.Goals as goal

pub returns-clause-agreement : goal.returns-clause-agreement
returns-clause-agreement c shape logs few are p q loyal loyal_too = logs_agree shape logs are few p q loyal loyal_too

pub returns-clause-replies : goal.returns-clause-replies
returns-clause-replies c shape logs few are client reply h = logs_answer shape logs are few client reply h

pub returns-clause-replicas : goal.returns-clause-replicas
returns-clause-replicas c shape logs are p loyal =
    subst (IsLoyalLog shape (Replica p)) (are.each (Replica p)) (log_loyal shape p loyal.1 are.run are.is)

pub returns-clause-clients : goal.returns-clause-clients
returns-clause-clients c shape logs are client =
    subst (IsClientLog shape client) (are.each (Client client)) (log_client shape client are.run are.is)

pub returns-clause-boxes : goal.returns-clause-boxes
returns-clause-boxes c shape logs are a b = logs_box shape logs are a b

pub returns-clause-taken : goal.returns-clause-taken
returns-clause-taken c shape logs are a s taken = logs_unforged shape logs are a s taken

pub returns-clause-history : goal.returns-clause-history
returns-clause-history c shape logs other same = λ i. history shape (λ a. same a i)

pub returns-clause-legal : goal.returns-clause-legal
returns-clause-legal c shape logs = history_legal shape logs

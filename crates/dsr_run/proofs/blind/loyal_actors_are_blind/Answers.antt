use Rattle.std.proofs.Common.{ap}
use Rattle.dsr_replica.proofs.Lemmas.{due_blind, rounds_blind, decided_values_blind, next_blind, loyal_blind}
use Rattle.dsr_client.proofs.Lemmas.{state_blind, seen_blind, next_blind as client_next_blind, conduct_blind}
use Rattle.dsr_names.specs.declared.actor.Actor.TheVariants.{Replica, Client}
use Rattle.dsr_run.proofs.Blindness.{agree_back, step_blind}
use Rattle.dsr_run.proofs.blind.loyal_actors_are_blind.Goals as goal

pub returns-clause-replicas : goal.returns-clause-replicas
returns-clause-replicas c shape other agree me log entry =
    (next_blind shape other agree me log entry, next_blind other shape (agree_back shape other agree) me log entry)

pub returns-clause-loyal_logs : goal.returns-clause-loyal_logs
returns-clause-loyal_logs c shape other agree me log =
    (loyal_blind shape other agree me log, loyal_blind other shape (agree_back shape other agree) me log)

pub returns-clause-clients : goal.returns-clause-clients
returns-clause-clients c shape other agree client log entry =
    (client_next_blind shape other agree client log entry, client_next_blind other shape (agree_back shape other agree) client log entry)

pub returns-clause-client_logs : goal.returns-clause-client_logs
returns-clause-client_logs c shape other agree client log =
    (conduct_blind shape other agree client log, conduct_blind other shape (agree_back shape other agree) client log)

pub returns-clause-due : goal.returns-clause-due
returns-clause-due c shape other agree log = due_blind shape other agree log

pub returns-clause-rounds : goal.returns-clause-rounds
returns-clause-rounds c shape other agree log = rounds_blind shape other agree log

pub returns-clause-decided : goal.returns-clause-decided
returns-clause-decided c shape other agree logs p = decided_values_blind shape other agree (logs (Replica p))

pub returns-clause-outstanding : goal.returns-clause-outstanding
returns-clause-outstanding c shape other agree log = ap (λ s. s.outstanding) (state_blind shape other agree log)

pub returns-clause-accepted : goal.returns-clause-accepted
returns-clause-accepted c shape other agree logs client = ap (λ s. s.accepted) (state_blind shape other agree (logs (Client client)))

pub returns-clause-seen : goal.returns-clause-seen
returns-clause-seen c shape other agree logs client = seen_blind shape other agree (logs (Client client))

pub returns-clause-steps : goal.returns-clause-steps
returns-clause-steps c shape other agree logs step loyal loyal_too =
    (step_blind shape other agree logs step loyal loyal_too, step_blind other shape (agree_back shape other agree) logs step loyal_too loyal)

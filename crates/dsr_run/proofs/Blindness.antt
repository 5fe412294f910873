-- Nothing that loyal actors do, decide, accept or see depends on who is a traitor.
use Rattle.std.proofs.Common.{◌≡◌, ◌<◌, ◌^◌, List, sym, ◌∙◌, subst}
use Rattle.std.proofs.lemmas.Bool.{false≢true}
use Rattle.dsr_names.specs.Shape.{Shape, AgreeButForTraitors, IsLoyal}
use Rattle.dsr_names.specs.declared.actor.Actor.{Actor}
use Rattle.dsr_names.specs.declared.actor.Actor.TheVariants.{Replica, Client}
use Rattle.dsr_envelope.specs.declared.entry.Entry.{Entry}
use Rattle.dsr_envelope.specs.declared.entry.Entry.TheVariants.{Post as PostEntry, Take as TakeEntry}
use Rattle.dsr_replica.proofs.Lemmas.{rounds_blind, next_blind}
use Rattle.dsr_client.proofs.Lemmas.{actor_blind, next_blind as client_next_blind}
use Rattle.dsr_run.specs.Run.{KeepsRounds, KeepsConduct, IsNextStep, other_of}
use Rattle.dsr_run.specs.Step.{Step, Logs}

-- shapes agree the other way round
pub agree_back : (shape other : Shape) → AgreeButForTraitors shape other → AgreeButForTraitors other shape
agree_back shape other agree =
    record { replicas = sym agree.replicas; most_traitors = sym agree.most_traitors; clients = sym agree.clients }

module _ (shape other : Shape) (agree : AgreeButForTraitors shape other) where
  pub keeps_rounds_blind : (log : List Entry) (entry : Entry) → KeepsRounds shape log entry → KeepsRounds other log entry
  keeps_rounds_blind log (PostEntry (Replica q) envelope) few = subst (λ r. r < 2 ^ 36) (rounds_blind shape other agree log) few
  keeps_rounds_blind log (PostEntry (Client c) envelope) few = tt
  keeps_rounds_blind log (TakeEntry from envelope) few = tt

  loyal_conduct : (logs : Logs) (a : Actor) (entry : Entry) → IsLoyal shape a → IsLoyal other a → KeepsConduct shape logs a entry
      → KeepsConduct other logs a entry
  loyal_conduct logs (Client c) entry loyal loyal_too keeps = client_next_blind shape other agree c (logs (Client c)) entry keeps
  loyal_conduct logs (Replica p) entry loyal loyal_too keeps =
      let kept = keeps.0 loyal.1 in (
        λ e. (next_blind shape other agree (Replica p) (logs (Replica p)) entry kept.0, keeps_rounds_blind (logs (Replica p)) entry kept.1),
        λ traitor. absurd (false≢true (sym loyal_too.1 ∙ traitor)),
      )

  pub step_with : (logs : Logs) (step : Step) → KeepsConduct other logs step.0 step.1 → IsNextStep shape logs step → IsNextStep other logs step
  step_with logs step conduct next = record {
    actor = actor_blind shape other agree step.0 next.actor;
    other = actor_blind shape other agree (other_of step.1) next.other;
    box = next.box;
    limits = next.limits;
    conduct = conduct;
  }

  pub step_blind : (logs : Logs) (step : Step) → IsLoyal shape step.0 → IsLoyal other step.0 → IsNextStep shape logs step → IsNextStep other logs step
  step_blind logs step loyal loyal_too next = step_with logs step (loyal_conduct logs step.0 step.1 loyal loyal_too next.conduct) next

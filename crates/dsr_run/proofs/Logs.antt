-- The logs of a run: each step is an entry of its actor's log, and the logs of loyal actors keep their protocol.
use Rattle.std.proofs.Common.{◌≡◌, ℕ, false, List, [], ◌∷◌, ◌++◌, ◌⊎◌, inl, inr, refl, ap, sym, ◌∙◌, subst}
use Rattle.dsr_base.specs.Growth.{Extends}
use Rattle.dsr_names.specs.Shape.{Shape, is_traitor}
use Rattle.dsr_names.specs.declared.actor.Actor.{Actor}
use Rattle.dsr_names.specs.declared.actor.Actor.TheVariants.{Replica, Client}
use Rattle.dsr_names.specs.Support.ActorEquality.{actor_eq, actor_eq-Decides}
use Rattle.dsr_slot.proofs.Lemmas.{by_test}
use Rattle.dsr_replica.specs.Conduct.{IsLoyalLog}
use Rattle.dsr_client.specs.Conduct.{IsClientLog}
use Rattle.dsr_run.specs.Run.{KeepsConduct, IsNextStep, IsRun, AreLogs}
use Rattle.dsr_run.specs.Step.{Step, Logs, with_step, log_of}

-- a step adds its entry to the log of its actor, and to no other
pub log_cases : (step : Step) (older : List Step) (a : Actor)
    → ((step.0 ≡ a) × (log_of (step ∷ older) a ≡ step.1 ∷ log_of older a)) ⊎ ((¬ (step.0 ≡ a)) × (log_of (step ∷ older) a ≡ log_of older a))
log_cases step older a = by_test (actor_eq step.0 a) (actor_eq-Decides step.0 a) (step.1 ∷ log_of older a) (log_of older a)

module _ (shape : Shape) where
  run_with : (newer older : List Step) → IsRun shape (newer ++ older) → IsRun shape older
  run_with [] older is = is
  run_with (step ∷ newer) older is = run_with newer older is.0

  -- a run was one at each earlier time
  pub run_before : (run earlier : List Step) → IsRun shape run → Extends run earlier → IsRun shape earlier
  run_before run earlier is grown = run_with grown.0 earlier (subst (IsRun shape) grown.1 is)

  -- the log of a loyal replica is loyal
  pub log_loyal : (p : ℕ) → is_traitor shape p ≡ false → (run : List Step) → IsRun shape run
      → IsLoyalLog shape (Replica p) (log_of run (Replica p))
  log_loyal p loyal [] is = tt
  log_loyal p loyal (step ∷ older) is =
      let before = log_loyal p loyal older is.0 in
      elim (log_cases step older (Replica p)) [
        | inl own ↦
            let keeps = subst (λ a. KeepsConduct shape (log_of older) a step.1) own.0 is.1.conduct in
            subst (IsLoyalLog shape (Replica p)) (sym own.1) (before, (keeps.0 loyal).0)
        | inr other ↦ subst (IsLoyalLog shape (Replica p)) (sym other.1) before
      ]

  -- the log of a client is a client's
  pub log_client : (c : ℕ) (run : List Step) → IsRun shape run → IsClientLog shape c (log_of run (Client c))
  log_client c [] is = tt
  log_client c (step ∷ older) is =
      let before = log_client c older is.0 in
      elim (log_cases step older (Client c)) [
        | inl own ↦
            let keeps = subst (λ a. KeepsConduct shape (log_of older) a step.1) own.0 is.1.conduct in
            subst (IsClientLog shape c) (sym own.1) (before, keeps)
        | inr other ↦ subst (IsClientLog shape c) (sym other.1) before
      ]

-- ---- earlier logs

-- each log of a run began as it was at an earlier time
pub logs_grow : (newer older : List Step) (a : Actor) → Extends (log_of (newer ++ older) a) (log_of older a)
logs_grow [] older a = ([], refl)
logs_grow (step ∷ newer) older a =
    let before = logs_grow newer older a in
    elim (log_cases step (newer ++ older) a) [
      | inl own ↦ (step.1 ∷ before.0, own.1 ∙ ap (λ es. step.1 ∷ es) before.1)
      | inr other ↦ (before.0, other.1 ∙ before.1)
    ]

pub logs_grew : (run earlier : List Step) → Extends run earlier → (a : Actor) → Extends (log_of run a) (log_of earlier a)
logs_grew run earlier grown a = subst (λ r. Extends (log_of r a) (log_of earlier a)) (sym grown.1) (logs_grow grown.0 earlier a)

-- ---- the logs of a run

-- they go on with each step that may be next
pub logs_step : (shape : Shape) (logs : Logs) (step : Step) → AreLogs shape logs → IsNextStep shape logs step → AreLogs shape (with_step step logs)
logs_step shape logs step are next =
    let same : log_of are.run ≡ logs = λ i a. are.each a i in
    record {
      run = step ∷ are.run;
      is = (are.is, subst (λ l. IsNextStep shape l step) (sym same) next);
      each = λ a. ap (λ l. with_step step l a) same;
    }

pub no_logs : (shape : Shape) → AreLogs shape (λ a. [])
no_logs shape = record { run = []; is = tt; each = λ a. refl }

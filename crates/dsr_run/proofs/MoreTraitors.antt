-- A traitor may do what a loyal replica does: a run is a run with more traitors.
use Rattle.std.proofs.Common.{◌≡◌, ℕ, ◌<◌, Bool, true, false, List, [], ◌∷◌, ◌++◌, inl, inr, refl, ap, sym, ◌∙◌, subst, arith}
use Rattle.std.specs.Prelude.{◌==◌, map}
use Rattle.std.proofs.lemmas.Bool.{false≢true}
use Rattle.std.proofs.lemmas.List.{append-nil}
use Rattle.std.proofs.lemmas.Nat.Bits.{bit_at-zero}
use Rattle.dsr_base.specs.Growth.{Extends}
use Rattle.dsr_names.specs.Shape.{Shape, shape_of, HasFewTraitors, is_traitor, IsLoyal}
use Rattle.dsr_names.specs.declared.actor.Actor.{Actor}
use Rattle.dsr_names.specs.declared.actor.Actor.TheVariants.{Replica, Client}
use Rattle.dsr_history.specs.History.{acted}
use Rattle.dsr_desk.specs.Signature.{Signature}
use Rattle.dsr_chain.specs.Content.{requests_in}
use Rattle.dsr_envelope.specs.declared.entry.Entry.{Entry}
use Rattle.dsr_envelope.specs.declared.entry.Entry.TheVariants.{Post, Take}
use Rattle.dsr_replica.specs.Conduct.{IsNext}
use Rattle.dsr_replica.proofs.Lemmas.{next_blind, post_source, decided_values_blind}
use Rattle.dsr_client.proofs.Lemmas.{next_blind as client_next_blind}
use Rattle.dsr_run.specs.Blind.{AddsTraitors}
use Rattle.dsr_run.specs.History.{history}
use Rattle.dsr_run.specs.Run.{IsTraitor, IsMadeOrPosted, ForgesNothing, KeepsConduct, IsNextStep, IsRun, AreLogs}
use Rattle.dsr_run.specs.Step.{Step, Logs, log_of}
use Rattle.dsr_run.proofs.Blindness.{keeps_rounds_blind, step_with}
use Rattle.dsr_run.proofs.Forging.{taken_made}
use Rattle.dsr_run.proofs.Histories.{history_is, history_extends}
use Rattle.dsr_run.proofs.Logs.{log_loyal}

module _ (shape other : Shape) (adds : AddsTraitors shape other) where
  -- what can be sent can be sent with more traitors
  more_made : (logs : Logs) (s : Signature) → IsMadeOrPosted shape logs s → IsMadeOrPosted other logs s
  more_made logs s (inl made) = inl (adds.stay s.signer made)
  more_made logs s (inr posted) = inr posted

  still_unforged : (logs : Logs) (entry : Entry) → ForgesNothing shape logs entry → ForgesNothing other logs entry
  still_unforged logs (Post to envelope) unforged = λ s carried. more_made logs s (unforged s carried)
  still_unforged logs (Take from envelope) unforged = tt

  -- what a loyal replica does forges nothing if it is a traitor of the other shape: its own signatures are a traitor's
  loyal_unforged : (run : List Step) → IsRun shape run → (p : ℕ) → p < shape.n → is_traitor shape p ≡ false
      → IsTraitor other (Replica p) → (entry : Entry) → IsNext shape (Replica p) (log_of run (Replica p)) entry
      → ForgesNothing other (log_of run) entry
  loyal_unforged run is p inside loyal traitor (Take from envelope) next = tt
  loyal_unforged run is p inside loyal traitor (Post to envelope) next = λ s carried.
      elim (post_source shape (Replica p) (omega (arith, inside)) (log_of run (Replica p)) (log_loyal shape p loyal run is) to envelope next s carried) [
        | inl own ↦ inl (subst (IsTraitor other) (sym own) traitor)
        | inr taken ↦ more_made (log_of run) s (taken_made shape run is (Replica p) s taken)
      ]

  replica_conduct : (run : List Step) → IsRun shape run → (p : ℕ) → p < shape.n → (entry : Entry) → (b : Bool) → is_traitor shape p ≡ b
      → KeepsConduct shape (log_of run) (Replica p) entry → KeepsConduct other (log_of run) (Replica p) entry
  replica_conduct run is p inside entry true traitor keeps = (
    λ loyal. absurd (false≢true (sym loyal ∙ (adds.stay (Replica p) (inside, traitor)).1)),
    λ e. still_unforged (log_of run) entry (keeps.1 traitor),
  )
  replica_conduct run is p inside entry false loyal keeps =
      let kept = keeps.0 loyal in (
        λ e. (
          next_blind shape other adds.agree (Replica p) (log_of run (Replica p)) entry kept.0,
          keeps_rounds_blind shape other adds.agree (log_of run (Replica p)) entry kept.1,
        ),
        λ traitor. loyal_unforged run is p inside loyal (subst (λ n. p < n) adds.agree.replicas inside, traitor) entry kept.0,
      )

  more_conduct : (run : List Step) → IsRun shape run → (step : Step) → IsNextStep shape (log_of run) step
      → KeepsConduct other (log_of run) step.0 step.1
  more_conduct run is (Replica p, entry) next = replica_conduct run is p next.actor entry (is_traitor shape p) refl next.conduct
  more_conduct run is (Client c, entry) next = client_next_blind shape other adds.agree c (log_of run (Client c)) entry next.conduct

  -- a run is a run with more traitors
  pub more_run : (run : List Step) → IsRun shape run → IsRun other run
  more_run [] is = tt
  more_run (step ∷ older) is =
      (more_run older is.0, step_with shape other adds.agree (log_of older) step (more_conduct older is.0 step is.1) is.1)

  pub more_logs : (logs : Logs) → AreLogs shape logs → AreLogs other logs
  more_logs logs are = record { run = are.run; is = more_run are.run are.is; each = are.each }

  -- an actor that is loyal by the other shape was loyal
  was_loyal : (p : ℕ) → IsLoyal other (Replica p) → IsLoyal shape (Replica p)
  was_loyal p loyal =
      let inside = subst (λ n. p < n) (sym adds.agree.replicas) loyal.0 in
      (inside, by_bit inside (is_traitor shape p) refl)
    where
      by_bit : p < shape.n → (b : Bool) → is_traitor shape p ≡ b → is_traitor shape p ≡ false
      by_bit inside true traitor = absurd (false≢true (sym loyal.1 ∙ (adds.stay (Replica p) (inside, traitor)).1))
      by_bit inside false e = e

  -- with more traitors fewer logs determine the history
  pub fewer_logs : HasFewTraitors shape → (run : List Step) → IsRun shape run → Extends (history shape (log_of run)) (history other (log_of run))
  fewer_logs few run is = elim (history_is other (log_of run)) [
    | inl none ↦ (
      history shape (log_of run),
      sym (append-nil (history shape (log_of run))) ∙ ap (λ rs. history shape (log_of run) ++ rs) (sym none),
    )
    | inr h ↦
        let same = ap (λ vs. acted (map requests_in vs)) (decided_values_blind shape other adds.agree (log_of run (Replica h.0))) in
        subst (Extends (history shape (log_of run))) (same ∙ sym h.2) (history_extends shape few run is h.0 (was_loyal h.0 h.1))
  ]

-- each shape adds traitors, perhaps none, to the same shape without traitors
pub no_traitors : (n f m traitors : ℕ) → AddsTraitors (shape_of n f m 0) (shape_of n f m traitors)
no_traitors n f m traitors = record {
  agree = record { replicas = refl; most_traitors = refl; clients = refl };
  stay = none;
}
  where
    none : (a : Actor) → IsTraitor (shape_of n f m 0) a → IsTraitor (shape_of n f m traitors) a
    none (Replica p) traitor = absurd (false≢true (sym (ap (λ bit. bit == 1) (bit_at-zero p)) ∙ traitor.1))
    none (Client c) traitor = elim traitor [ ]

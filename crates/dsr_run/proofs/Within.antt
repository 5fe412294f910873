-- The limits of a run: every envelope in it is within them, a loyal replica closes at most 2^36 rounds, and the history has at most
-- 2^39 requests.
use Rattle.std.proofs.Common.{◌≡◌, ℕ, zero, suc, ◌-◌, ◌^◌, ◌<◌, ◌≤◌, ◌==◌, Bool, true, false, List, [], ◌∷◌, ◌++◌, length, if◌then◌else◌, inl, inr, refl, ap, sym, ◌∙◌, subst, arith}
use Rattle.std.proofs.lemmas.Bool.Decides.{Decides-eqb}
use Rattle.std.proofs.lemmas.Bool.{false≢true}
use Rattle.std.proofs.lemmas.List.{length_push}
use Rattle.dsr_base.specs.Member.{In}
use Rattle.dsr_names.specs.Shape.{Shape, IsAllowed, IsLoyal}
use Rattle.dsr_names.specs.declared.actor.Actor.{Actor}
use Rattle.dsr_names.specs.declared.actor.Actor.TheVariants.{Replica, Client}
use Rattle.dsr_names.specs.Support.ActorEquality.{actor_eq, actor_eq-Decides}
use Rattle.dsr_slot.proofs.Lemmas.{by_test}
use Rattle.dsr_envelope.specs.declared.envelope.Envelope.{Envelope}
use Rattle.dsr_envelope.specs.declared.entry.Entry.{Entry}
use Rattle.dsr_envelope.specs.declared.entry.Entry.TheVariants.{Post, Take}
use Rattle.dsr_envelope.specs.declared.due.Due.{Due}
use Rattle.dsr_envelope.specs.declared.due.Due.TheVariants.{Post as PostTo, Take as TakeFrom}
use Rattle.dsr_replica.specs.Conduct.{IsNext}
use Rattle.dsr_envelope.specs.Limits.{IsEnvelope}
use Rattle.dsr_envelope.specs.Log.{taken_from, due, rounds}
use Rattle.dsr_replica.proofs.Lemmas.{history_few, next_fits}
use Rattle.dsr_run.specs.History.{history}
use Rattle.dsr_run.specs.Run.{KeepsLimits, KeepsRounds, KeepsConduct, IsRun}
use Rattle.dsr_run.specs.Step.{Step, log_of}
use Rattle.dsr_run.proofs.Boxes.{from_log, taken_was_posted}
use Rattle.dsr_run.proofs.Histories.{history_is}
use Rattle.dsr_run.proofs.Logs.{log_cases, log_loyal}

-- ---- rounds

-- at most this many rounds are closed, and fewer within a round
abbrev IsBefore : ℕ → Due → ℕ → Type 0
IsBefore most (PostTo zero) t = t ≤ most
IsBefore most (PostTo (suc q)) t = t < most
IsBefore most (TakeFrom p) t = t < most

at_most : (most : ℕ) (d : Due) (t : ℕ) → IsBefore most d t → t ≤ most
at_most most (PostTo zero) t h = h
at_most most (PostTo (suc q)) t h = omega (arith, h)
at_most most (TakeFrom p) t h = omega (arith, h)

after_post : (most q t : ℕ) (b : Bool) → t < most → IsBefore most (if b then TakeFrom 0 else PostTo (suc q)) t
after_post most q t true h = h
after_post most q t false h = h

after_take : (most p t later : ℕ) (b : Bool) → t < most → later ≤ suc t → (b ≡ false → later ≡ t)
    → IsBefore most (if b then PostTo 0 else TakeFrom (suc p)) later
after_take most p t later true h step same = omega (arith, h, step)
after_take most p t later false h step same = let still = same refl in omega (arith, h, still)

-- a take closes a round only if it is from the last replica
one_round : (shape : Shape) (p : ℕ) (x : Envelope) (log : List Entry) → 0 < shape.n
    → (rounds shape (Take (Replica p) x ∷ log) ≤ suc (rounds shape log))
    × ((suc p == shape.n) ≡ false → rounds shape (Take (Replica p) x ∷ log) ≡ rounds shape log)
one_round shape p x log some =
    let last = Replica (shape.n - 1) in
    elim (by_test (actor_eq (Replica p) last) (actor_eq-Decides (Replica p) last) (taken_from last log ++ x ∷ []) (taken_from last log)) [
      | inl same ↦
          let more = length_push (taken_from last log) x in
          let count = ap length same.1 in
          let number = same_number same.0 in
          (omega (arith, more, count), λ other. absurd (not_last number other))
      | inr other ↦ let count = ap length other.1 in (omega (arith, count), λ e. count)
    ]
  where
    same_number : Replica p ≡ Replica (shape.n - 1) → p ≡ shape.n - 1
    same_number e = cc

    not_last : p ≡ shape.n - 1 → (suc p == shape.n) ≡ false → ⊥
    not_last same other =
        let is : suc p ≡ shape.n = omega (arith, same, some) in
        let yes = (Decides-eqb (suc p) shape.n).1 is in
        false≢true (sym other ∙ yes)

-- a take from a client closes none
no_round : (shape : Shape) (c : ℕ) (x : Envelope) (log : List Entry) → rounds shape (Take (Client c) x ∷ log) ≡ rounds shape log
no_round shape c x log =
    let last = Replica (shape.n - 1) in
    elim (by_test (actor_eq (Client c) last) (actor_eq-Decides (Client c) last) (taken_from last log ++ x ∷ []) (taken_from last log)) [
      | inl same ↦ absurd (differ same.0)
      | inr other ↦ ap length other.1
    ]
  where
    differ : Client c ≡ Replica (shape.n - 1) → ⊥
    differ e = cc

before_next : (shape : Shape) (p : ℕ) (log : List Entry) (entry : Entry) → 0 < shape.n → IsNext shape (Replica p) log entry → KeepsRounds shape log entry
    → IsBefore (2 ^ 36) (due shape log) (rounds shape log) → IsBefore (2 ^ 36) (due shape (entry ∷ log)) (rounds shape (entry ∷ log))
before_next shape p log (Post (Replica q) x) some next small before = after_post (2 ^ 36) q (rounds shape log) (suc q == shape.n) small
before_next shape p log (Post (Client c) x) some next small before = before
before_next shape p log (Take (Replica i) x) some next small before =
    let step = one_round shape i x log some in
    after_take (2 ^ 36) i (rounds shape log) (rounds shape (Take (Replica i) x ∷ log)) (suc i == shape.n)
    (subst (λ d. IsBefore (2 ^ 36) d (rounds shape log)) next before) step.0 step.1
before_next shape p log (Take (Client c) x) some next small before =
    subst (IsBefore (2 ^ 36) (due shape log)) (sym (no_round shape c x log)) before

module _ (shape : Shape) where
  rounds_before : (p : ℕ) → IsLoyal shape (Replica p) → (run : List Step) → IsRun shape run
      → IsBefore (2 ^ 36) (due shape (log_of run (Replica p))) (rounds shape (log_of run (Replica p)))
  rounds_before p loyal [] is = none (2 ^ 36)
    where
      none : (most : ℕ) → 0 ≤ most
      none most = omega arith
  rounds_before p loyal (step ∷ older) is =
      let before = rounds_before p loyal older is.0 in
      let some : 0 < shape.n = let low = loyal.0 in omega (arith, low) in
      elim (log_cases step older (Replica p)) [
        | inl own ↦
            let keeps = (subst (λ a. KeepsConduct shape (log_of older) a step.1) own.0 is.1.conduct).0 loyal.1 in
            subst (λ l. IsBefore (2 ^ 36) (due shape l) (rounds shape l)) (sym own.1)
            (before_next shape p (log_of older (Replica p)) step.1 some keeps.0 keeps.1 before)
        | inr other ↦ subst (λ l. IsBefore (2 ^ 36) (due shape l) (rounds shape l)) (sym other.1) before
      ]

  -- a loyal replica closes at most 2^36 rounds
  pub rounds_within : (run : List Step) → IsRun shape run → (p : ℕ) → IsLoyal shape (Replica p) → rounds shape (log_of run (Replica p)) ≤ 2 ^ 36
  rounds_within run is p loyal =
      at_most (2 ^ 36) (due shape (log_of run (Replica p))) (rounds shape (log_of run (Replica p))) (rounds_before p loyal run is)

  -- ---- envelopes

  -- what is posted is within the limits, and so is what is taken
  pub posted_within : (run : List Step) → IsRun shape run → (a to : Actor) (x : Envelope) → In (Post to x) (log_of run a) → IsEnvelope x
  posted_within [] is a to x h = elim h [ ]
  posted_within (step ∷ older) is a to x h = elim (from_log step older a (Post to x) h) [
    | inl new ↦ (subst (KeepsLimits (log_of older) step.0) new.1 is.1.limits).0
    | inr old ↦ posted_within older is.0 a to x old
  ]

  pub taken_within : (run : List Step) → IsRun shape run → (a from : Actor) (x : Envelope) → In (Take from x) (log_of run a) → IsEnvelope x
  taken_within run is a from x h = posted_within run is from a x (taken_was_posted shape run is from a x h)

  -- what a loyal replica posts next is within the limits
  pub loyal_next_within : IsAllowed shape → (run : List Step) → IsRun shape run → (p : ℕ) → IsLoyal shape (Replica p) → (to : Actor) (x : Envelope)
      → IsNext shape (Replica p) (log_of run (Replica p)) (Post to x) → IsEnvelope x
  loyal_next_within allowed run is p loyal to x next =
      next_fits shape allowed p loyal.0 (log_of run (Replica p)) (log_loyal shape p loyal.1 run is)
      (λ from y h. taken_within run is (Replica p) from y h) (rounds_within run is p loyal) to x next

  -- ---- the history

  pub history_within : (run : List Step) → IsRun shape run → length (history shape (log_of run)) ≤ 2 ^ 39
  history_within run is = elim (history_is shape (log_of run)) [
    | inl none ↦ let count = ap length none in omega (arith, count)
    | inr h ↦
        let count = ap length h.2 in
        let few = history_few shape (log_of run (Replica h.0)) (λ from y k. taken_within run is (Replica h.0) from y k) in
        let low = rounds_within run is h.0 h.1 in
        omega (arith, count, few, low)
  ]

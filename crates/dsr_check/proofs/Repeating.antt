-- What is stored of posts to replica 0: for each actor the last one. A loyal replica posts that to the others in that round too.
use Rattle.std.proofs.Common.{◌≡◌, ◌==◌, ℕ, ◌+◌, zero, suc, ◌<◌, List, [], ◌∷◌, ◌++◌, length, Option, None, Some, if◌then◌else◌, inl, inr, refl, ap, sym, ◌∙◌, subst, arith}
use Rattle.std.specs.Prelude.{slice_get, slice_index_or, slice_set}
use Rattle.std.proofs.lemmas.Bool.{cond-true, cond-false, cases_Bool, false_from_ne_true}
use Rattle.std.proofs.lemmas.Bool.Decides.{Decides-eqb, nat_tests}
use Rattle.std.proofs.lemmas.List.{get_or-set_same, get_or-set_other, length-set, length_push}
use Rattle.std.proofs.lemmas.Option.{none-some, same_Some}
use Rattle.dsr_names.specs.Places.{place_of}
use Rattle.dsr_names.specs.Shape.{Shape, IsActor, IsLoyal}
use Rattle.dsr_names.specs.declared.actor.Actor.{Actor}
use Rattle.dsr_names.specs.declared.actor.Actor.TheVariants.{Replica, Client}
use Rattle.dsr_names.proofs.PlaceLemmas.{place_below, same_place}
use Rattle.dsr_envelope.specs.declared.envelope.Envelope.{Envelope}
use Rattle.dsr_envelope.specs.declared.entry.Entry.{Entry}
use Rattle.dsr_envelope.specs.declared.entry.Entry.TheVariants.{Post, Take}
use Rattle.dsr_envelope.specs.declared.due.Due.{Due}
use Rattle.dsr_envelope.specs.declared.due.Due.TheVariants.{Post as PostTo, Take as TakeFrom}
use Rattle.dsr_envelope.specs.declared.pick.Pick.TheVariants.{Plain}
use Rattle.dsr_envelope.specs.Log.{posted_to, due, rounds}
use Rattle.dsr_replica.specs.Conduct.{envelope_to, is_due}
use Rattle.dsr_replica.specs.Counts.{posts_at}
use Rattle.dsr_replica.proofs.Lemmas.{counts}
use Rattle.dsr_run.specs.Run.{IsRun}
use Rattle.dsr_run.specs.Step.{Step, log_of}
use Rattle.dsr_run.proofs.Lemmas.{log_cases, log_loyal}
use Rattle.dsr_check.specs.Support.Audit.{AreFirsts, IsFirstOf, with_first}
use Rattle.dsr_check.specs.declared.held.Held.{Held}

-- nothing is kept at first
pub no_firsts : (shape : Shape) (firsts : List (Option Held)) → length firsts ≡ shape.n + shape.m
    → ((place : ℕ) → slice_index_or firsts place None ≡ None) → AreFirsts shape (log_of []) firsts
no_firsts shape firsts count none = record {
  count = count;
  last = λ who inside h kept. absurd (none-some h (sym (none (place_of shape who)) ∙ kept));
}

-- the entry posts nothing to replica 0
abbrev Leaves : Entry → Type 0
Leaves (Post (Replica zero) x) = ⊥
Leaves (Post (Replica (suc q)) x) = Unit {0}
Leaves (Post (Client c) x) = Unit {0}
Leaves (Take from x) = Unit {0}

posted_same : (entry : Entry) (log : List Entry) → Leaves entry → posted_to (Replica 0) (entry ∷ log) ≡ posted_to (Replica 0) log
posted_same (Post (Replica zero) x) log leaves = elim leaves [ ]
posted_same (Post (Replica (suc q)) x) log leaves =
    cond-false (suc q == 0) (posted_to (Replica 0) log ++ x ∷ []) (posted_to (Replica 0) log)
    (false_from_ne_true (suc q == 0) (λ e. absurd (omega (arith, (Decides-eqb (suc q) 0).0 e))))
posted_same (Post (Client c) x) log leaves = refl
posted_same (Take from x) log leaves = refl

module _ (shape : Shape) (run : List Step) (firsts : List (Option Held)) (are : AreFirsts shape (log_of run) firsts) where
  -- a step that posts nothing to replica 0 leaves them right
  firsts_left : (step : Step) → Leaves step.1 → AreFirsts shape (log_of (step ∷ run)) firsts
  firsts_left step leaves = record {
    count = are.count;
    last = λ who inside h kept.
        let before = are.last who inside h kept in
        elim (log_cases step run who) [
          | inl own ↦
              (before.0, (before.1.0, ap (posted_to (Replica 0)) own.1 ∙ (posted_same step.1 (log_of run who) leaves ∙ before.1.1)))
          | inr other ↦ (before.0, (before.1.0, ap (posted_to (Replica 0)) other.1 ∙ before.1.1))
        ];
  }

  pub firsts_taken : (a from : Actor) (x : Envelope) → AreFirsts shape (log_of ((a, Take from x) ∷ run)) firsts
  firsts_taken a from x = firsts_left (a, Take from x) tt

  -- a post to replica 0 is kept
  firsts_first : (from : Actor) (h : Held) → h.draft.now ≡ h.envelope → IsActor shape from
      → AreFirsts shape (log_of ((from, Post (Replica 0) h.envelope) ∷ run)) (slice_set firsts (place_of shape from) (Some h))
  firsts_first from h recorded actor = record {
    count = length-set firsts (place_of shape from) (Some h) ∙ are.count;
    last = by_actor;
  }
    where
      by_actor : (who : Actor) → IsActor shape who → (y : Held) → slice_index_or (slice_set firsts (place_of shape from) (Some h)) (place_of shape who) None ≡ Some y
          → (y.draft.now ≡ y.envelope)
          × ((older : List Envelope) × (posted_to (Replica 0) (log_of ((from, Post (Replica 0) h.envelope) ∷ run) who) ≡ older ++ y.envelope ∷ []))
      by_actor who inside y kept = elim (log_cases (from, Post (Replica 0) h.envelope) run who) [
        | inl own ↦
            let long : place_of shape from < length firsts =
            let below = place_below shape from actor in let count = are.count in omega (arith, below, count) in
            let stored : slice_index_or (slice_set firsts (place_of shape from) (Some h)) (place_of shape who) None ≡ Some h =
            subst (λ a. slice_index_or (slice_set firsts (place_of shape from) (Some h)) (place_of shape a) None ≡ Some h) own.0
            (get_or-set_same firsts (place_of shape from) (Some h) None long) in
            let is : h ≡ y = same_Some h y (sym stored ∙ kept) in (
              subst (λ (z : Held). z.draft.now ≡ z.envelope) is recorded,
              (posted_to (Replica 0) (log_of run who), ap (posted_to (Replica 0)) own.1 ∙ ap (λ (z : Held). posted_to (Replica 0) (log_of run who) ++ z.envelope ∷ []) is),
            )
        | inr other ↦
            let stored = get_or-set_other firsts (place_of shape from) (place_of shape who) (Some h) None
            (λ same. other.0 (same_place shape from who actor inside (sym same))) in
            let before = are.last who inside y (sym stored ∙ kept) in
            (before.0, (before.1.0, ap (posted_to (Replica 0)) other.1 ∙ before.1.1))
      ]

  -- this still holds after a post to replica 0, with a copy of it stored, and after every other post
  pub firsts_posted : (from to : Actor) (h : Held) (kept : Option Held) → h.draft.now ≡ h.envelope → IsActor shape from → IsFirstOf to h kept
      → AreFirsts shape (log_of ((from, Post to h.envelope) ∷ run)) (with_first firsts (place_of shape from) kept)
  firsts_posted from (Replica zero) h kept recorded actor is =
      let first = firsts_first from is.0 (is.2 ∙ (recorded ∙ sym is.3)) actor in
      subst (λ k. AreFirsts shape (log_of ((from, Post (Replica 0) h.envelope) ∷ run)) (with_first firsts (place_of shape from) k)) (sym is.1)
      (subst (λ x. AreFirsts shape (log_of ((from, Post (Replica 0) x) ∷ run)) (slice_set firsts (place_of shape from) (Some is.0))) is.3 first)
  firsts_posted from (Replica (suc q)) h kept recorded actor is =
      subst (λ k. AreFirsts shape (log_of ((from, Post (Replica (suc q)) h.envelope) ∷ run)) (with_first firsts (place_of shape from) k)) (sym is)
      (firsts_left (from, Post (Replica (suc q)) h.envelope) tt)
  firsts_posted from (Client c) h kept recorded actor is =
      subst (λ k. AreFirsts shape (log_of ((from, Post (Client c) h.envelope) ∷ run)) (with_first firsts (place_of shape from) k)) (sym is)
      (firsts_left (from, Post (Client c) h.envelope) tt)

-- ---- a loyal replica's posts of one round

-- if a replica posts to `q`, a post to `q` is due
due_at : (d : Due) (q : ℕ) (x : Envelope) (o : Option Envelope) → (if is_due d q then o else None) ≡ Some x → d ≡ PostTo q
due_at (PostTo k) q x o e = elim (cases_Bool (k == q)) [
  | inl yes_due ↦ ap PostTo ((Decides-eqb k q).0 yes_due)
  | inr no_due ↦ absurd (none-some x (sym (cond-false (k == q) o None no_due) ∙ e))
]
due_at (TakeFrom k) q x o e = absurd (none-some x e)

last_of : (older : List Envelope) (x : Envelope) → slice_get (older ++ x ∷ []) (length older) ≡ Some x
last_of [] x = refl
last_of (y ∷ older) x = last_of older x

-- what is last in a list
last_at : (posts older : List Envelope) (x : Envelope) (t : ℕ) → posts ≡ older ++ x ∷ [] → length posts ≡ suc t → slice_get posts t ≡ Some x
last_at posts older x t is long =
    let count : length older ≡ t = let more = length_push older x in let same = ap length is in omega (arith, more, same, long) in
    subst (λ k. slice_get posts k ≡ Some x) count (subst (λ l. slice_get l (length older) ≡ Some x) (sym is) (last_of older x))

first_posted : (q t : ℕ) → posts_at (PostTo (suc q)) t 0 ≡ suc t
first_posted q t = grind (arith, nat_tests)

-- what a loyal replica posts to another than replica 0 is what it last posted to replica 0
pub posts_again : (shape : Shape) (run : List Step) → IsRun shape run → (p q : ℕ) → IsLoyal shape (Replica p) → 0 < q → (older : List Envelope) (x y : Envelope)
    → posted_to (Replica 0) (log_of run (Replica p)) ≡ older ++ x ∷ [] → envelope_to shape (Replica p) (log_of run (Replica p)) q Plain ≡ Some y
    → x ≡ y
posts_again shape run is p zero loyal later older x y last given = absurd (omega (arith, later))
posts_again shape run is p (suc q) loyal later older x y last given =
    let some : 0 < shape.n = omega (arith, loyal.0) in
    let log = log_of run (Replica p) in
    let counted = counts shape (Replica p) some log (log_loyal shape p loyal.1 run is) in
    let next : due shape log ≡ PostTo (suc q) = due_at (due shape log) (suc q) y (slice_get (posted_to (Replica 0) log) (rounds shape log)) given in
    let long : length (posted_to (Replica 0) log) ≡ suc (rounds shape log) =
    counted.posts 0 some ∙ (ap (λ d. posts_at d (rounds shape log) 0) next ∙ first_posted q (rounds shape log)) in
    let first = last_at (posted_to (Replica 0) log) older x (rounds shape log) last long in
    let picked : slice_get (posted_to (Replica 0) log) (rounds shape log) ≡ Some y =
    sym (cond-true (suc q == suc q) (slice_get (posted_to (Replica 0) log) (rounds shape log)) None ((Decides-eqb (suc q) (suc q)).1 refl))
    ∙ subst (λ d. (if is_due d (suc q) then slice_get (posted_to (Replica 0) log) (rounds shape log) else None) ≡ Some y) next given in
    same_Some x y (sym first ∙ picked)

-- The steps as calls ask for them, and what each tells its caller.
use Rattle.std.proofs.Common.{◌≡◌, ◌≢◌, ℕ, ◌+◌, ◌*◌, ◌<◌, ◌≤◌, Bool, true, false, List, [], ◌∷◌, refl, ap, sym, ◌∙◌, subst, arith, eqb, nat_eq, true≢false}
use Rattle.std.proofs.lemmas.Bool.{OnTrue_from, eqb-true, eq-eqb}
use Rattle.std.specs.Bool.{OnTrue, OnFalse}
use Rattle.std.specs.Prelude.{Option, None, Some}
use mathlib.Core.Option.{none}
use prog.Atomic.{either}
use Rattle.atomic_table.specs.Table.{step, rest, Allows}
use Rattle.dsr_names.specs.Places.{size}
use Rattle.dsr_names.specs.Shape.{Shape, IsActor}
use Rattle.dsr_names.specs.declared.actor.Actor.{Actor}
use Rattle.dsr_envelope.specs.declared.envelope.Envelope.{Envelope}
use Rattle.dsr_envelope.specs.declared.entry.Entry.{Entry}
use Rattle.dsr_envelope.specs.declared.entry.Entry.TheVariants.{Take}
use Rattle.dsr_envelope.specs.Limits.{IsEnvelope}
use Rattle.dsr_run.specs.OwnStep.{MayPost, HasPostsLeft}
use Rattle.dsr_boxes.specs.Pass.{IsInRun, MayTake}
use Rattle.dsr_boxes.specs.Place.{slot_of, word_of}
use Rattle.dsr_boxes.specs.Play.{Claims, Publishes, Fetches, Releases}
use Rattle.dsr_boxes.specs.Rule.{Kept}
use Rattle.dsr_boxes.specs.View.{Holding, actor_in, log_in, resting, filling, emptying}
use Rattle.dsr_boxes.proofs.BoxSteps.{claims, publishes, fetches, releases}
use Rattle.dsr_boxes.proofs.Numbers.{few_slots, slot_below, word_below}

-- a slot is one of few
pub slot_small : (shape : Shape) (a b : Actor) → size shape ≤ 48 → IsActor shape a → IsActor shape b → slot_of shape a b < 2304
slot_small shape a b few in_a in_b =
    let low = slot_below shape a b in_a in_b in let most = few_slots shape few in
    let x : ℕ = slot_of shape a b in let y : ℕ = size shape * size shape in
    let low' : x < y = low in let most' : y ≤ 2304 = most in omega arith

-- a word is one of the table's
pub word_inside : (shape inner : Shape) (words slot : ℕ) (a b : Actor) → inner ≡ shape → words ≡ 4 + size inner * size inner → IsActor shape a → IsActor shape b
    → slot ≡ slot_of shape a b → 4 + slot < words
word_inside shape inner words slot a b same wide in_a in_b is =
    subst (λ w. 4 + slot < w) (sym (wide ∙ ap (λ k. 4 + size k * size k) same))
    (subst (λ n. 4 + n < 4 + size shape * size shape) (sym is) (word_below shape a b in_a in_b))

OnFalse_from : (b : Bool) (P : Type 0) → (b ≡ false → P) → OnFalse b P
OnFalse_from true P h = tt
OnFalse_from false P h = h refl

not_eqb : (a b : ℕ) → eqb a b ≡ false → a ≢ b
not_eqb a b e same = true≢false (sym (eq-eqb a b same) ∙ e)

-- ---- the slot that is held

-- what was put into the claimed box is there
pub put_in : (shape : Shape) (me to : Actor) (log : List Entry) (m after : Holding) (slot : ℕ) (content : Option Envelope) → m ≡ filling shape me log to None
    → slot ≡ slot_of shape me to → after ≡ (m.0, (slot, content) ∷ rest m.1) → after ≡ filling shape me log to content
put_in shape me to log m after slot content is at put = put ∙ (λ i. ((is i).0, (at i, content) ∷ rest (is i).1))

-- the fetched box is the one that is held
pub held_is : (shape : Shape) (me from : Actor) (log : List Entry) (m : Holding) (slot : ℕ) (content : Option Envelope) → m ≡ emptying shape me log from content
    → slot ≡ slot_of shape from me → m.1 ≡ (slot, content) ∷ rest m.1
held_is shape me from log m slot content is at =
    subst (λ x. x.1 ≡ (slot, content) ∷ rest x.1) (sym is) (λ i. (sym at i, content) ∷ [])

-- what was taken out of it is gone
pub taken_out : (shape : Shape) (me from : Actor) (log : List Entry) (m after : Holding) (slot : ℕ) (old content : Option Envelope) → m ≡ emptying shape me log from old
    → slot ≡ slot_of shape from me → after ≡ (m.0, (slot, content) ∷ rest m.1) → after ≡ emptying shape me log from content
taken_out shape me from log m after slot old content is at put = put ∙ (λ i. ((is i).0, (at i, content) ∷ rest (is i).1))

-- what a number found says when it is compared
pub on_found : (found n : ℕ) (P : Type 0) → (found ≡ n → P) → OnTrue (nat_eq found n) P
on_found found n P h = OnTrue_from (nat_eq found n) P (λ e. h (eqb-true found n e))

pub on_missed : (found n : ℕ) (P : Type 0) → (found ≢ n → P) → OnFalse (nat_eq found n) P
on_missed found n P h = OnFalse_from (nat_eq found n) P (λ e. h (not_eqb found n e))

module _ (shape key : Shape) (slots id word : ℕ) (me other : Actor) (log : List Entry) (m : Holding) (same : shape ≡ key) (in_me : IsActor shape me) (in_other : IsActor shape other) where
  pub claims_as : word ≡ word_of shape me other → m ≡ resting shape me log
      → Allows (Kept key) slots id m word (λ n. either (eqb n 0) 1 n) (Claims (step slots word 0 1 none) m)
  claims_as at is =
      subst (λ k. Allows (Kept k) slots id m word (λ n. either (eqb n 0) 1 n) (Claims (step slots word 0 1 none) m)) same
      (subst (λ w. Allows (Kept shape) slots id m w (λ n. either (eqb n 0) 1 n) (Claims (step slots w 0 1 none) m)) (sym at)
      (subst (λ x. Allows (Kept shape) slots id x (word_of shape me other) (λ n. either (eqb n 0) 1 n) (Claims (step slots (word_of shape me other) 0 1 none) x)) (sym is)
      (claims shape slots id me log in_me other in_other)))

  pub publishes_as : (x : Envelope) → MayPost shape me log other x → HasPostsLeft log other → word ≡ word_of shape me other → m ≡ filling shape me log other (Some x)
      → Allows (Kept key) slots id m word (λ n. either (eqb n 1) 2 n) (Publishes (step slots word 1 2 none) m)
  publishes_as x may left at is =
      subst (λ k. Allows (Kept k) slots id m word (λ n. either (eqb n 1) 2 n) (Publishes (step slots word 1 2 none) m)) same
      (subst (λ w. Allows (Kept shape) slots id m w (λ n. either (eqb n 1) 2 n) (Publishes (step slots w 1 2 none) m)) (sym at)
      (subst (λ y. Allows (Kept shape) slots id y (word_of shape me other) (λ n. either (eqb n 1) 2 n) (Publishes (step slots (word_of shape me other) 1 2 none) y)) (sym is)
      (publishes shape slots id me log in_me other in_other x may left)))

  pub fetches_as : MayTake shape me log other → word ≡ word_of shape other me → m ≡ resting shape me log
      → Allows (Kept key) slots id m word (λ n. either (eqb n 2) 3 n) (Fetches (step slots word 2 3 none) m)
  fetches_as may at is =
      subst (λ k. Allows (Kept k) slots id m word (λ n. either (eqb n 2) 3 n) (Fetches (step slots word 2 3 none) m)) same
      (subst (λ w. Allows (Kept shape) slots id m w (λ n. either (eqb n 2) 3 n) (Fetches (step slots w 2 3 none) m)) (sym at)
      (subst (λ x. Allows (Kept shape) slots id x (word_of shape other me) (λ n. either (eqb n 2) 3 n) (Fetches (step slots (word_of shape other me) 2 3 none) x)) (sym is)
      (fetches shape slots id me log in_me other in_other may)))

  pub releases_as : word ≡ word_of shape other me → m ≡ emptying shape me log other None
      → Allows (Kept key) slots id m word (λ n. either (eqb n 3) 0 n) (Releases (step slots word 3 0 none) m)
  releases_as at is =
      subst (λ k. Allows (Kept k) slots id m word (λ n. either (eqb n 3) 0 n) (Releases (step slots word 3 0 none) m)) same
      (subst (λ w. Allows (Kept shape) slots id m w (λ n. either (eqb n 3) 0 n) (Releases (step slots w 3 0 none) m)) (sym at)
      (subst (λ x. Allows (Kept shape) slots id x (word_of shape other me) (λ n. either (eqb n 3) 0 n) (Releases (step slots (word_of shape other me) 3 0 none) x)) (sym is)
      (releases shape slots id me log in_me other in_other)))

  -- what a claim and a fetch tell
  pub claim_told : (found : ℕ) (after : Holding) → word ≡ word_of shape me other → m ≡ resting shape me log → Claims (step slots word 0 1 none) m found after
      → (found ≡ 0 → after ≡ filling shape me log other None) × (found ≢ 0 → after ≡ m)
  claim_told found after at is told =
      subst (λ x. Claims (step slots word 0 1 none) x found after → (found ≡ 0 → after ≡ filling shape me log other None) × (found ≢ 0 → after ≡ x)) (sym is)
      (λ t. t other in_other at) told

  pub fetch_told : (found : ℕ) (after : Holding) → word ≡ word_of shape other me → m ≡ resting shape me log → Fetches (step slots word 2 3 none) m found after
      → (found ≡ 2 → (envelope : Envelope) × IsEnvelope envelope × (after ≡ emptying shape me (Take other envelope ∷ log) other (Some envelope))
      × IsInRun shape me (Take other envelope ∷ log)) × (found ≢ 2 → after ≡ m)
  fetch_told found after at is told =
      subst (λ x. Fetches (step slots word 2 3 none) x found after
      → (found ≡ 2 → (envelope : Envelope) × IsEnvelope envelope × (after ≡ emptying shape me (Take other envelope ∷ log) other (Some envelope))
      × IsInRun shape me (Take other envelope ∷ log)) × (found ≢ 2 → after ≡ x)) (sym is)
      (λ t. let its = t other in_other at in ((λ e. let got = its.0 e in (got.0, got.1, got.2, in_run_as after got.2 got.3)), its.1)) told
    where
      in_run_as : {envelope : Envelope} (x : Holding) → x ≡ emptying shape me (Take other envelope ∷ log) other (Some envelope)
          → IsInRun x.0.shape (actor_in x.0.part) (log_in x.0.part) → IsInRun shape me (Take other envelope ∷ log)
      in_run_as x e run = subst (λ y. IsInRun y.0.shape (actor_in y.0.part) (log_in y.0.part)) e run

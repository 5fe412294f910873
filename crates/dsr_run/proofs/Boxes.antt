-- The boxes of a run: what was posted from one actor to another is what was taken there, or has one envelope more; so what was
-- taken was posted.
use Rattle.std.proofs.Common.{◌≡◌, List, [], ◌∷◌, ◌++◌, ◌⊎◌, inl, inr, refl, ap, sym, ◌∙◌, subst}
use Rattle.dsr_base.specs.Member.{In, here, there}
use Rattle.dsr_base.proofs.MemberLemmas.{In-append_right, In-append_cases, In-one}
use Rattle.dsr_names.specs.Shape.{Shape, IsActor}
use Rattle.dsr_names.specs.declared.actor.Actor.{Actor}
use Rattle.dsr_names.specs.Support.ActorEquality.{actor_eq, actor_eq-Decides}
use Rattle.dsr_slot.proofs.Lemmas.{by_test}
use Rattle.dsr_envelope.specs.declared.envelope.Envelope.{Envelope}
use Rattle.dsr_envelope.specs.declared.entry.Entry.{Entry}
use Rattle.dsr_envelope.specs.declared.entry.Entry.TheVariants.{Post, Take}
use Rattle.dsr_envelope.specs.Log.{posted_to, taken_from}
use Rattle.dsr_run.specs.Run.{IsRun, other_of}
use Rattle.dsr_run.specs.Step.{Step, log_of}
use Rattle.dsr_run.proofs.Logs.{log_cases}

-- ---- what is in a log

-- an entry stays in its log
pub in_log : (step : Step) (older : List Step) (a : Actor) (entry : Entry) → In entry (log_of older a) → In entry (log_of (step ∷ older) a)
in_log step older a entry h = elim (log_cases step older a) [
  | inl own ↦ subst (In entry) (sym own.1) (there h)
  | inr other ↦ subst (In entry) (sym other.1) h
]

-- an entry of a log is the last step's, or was there before
pub from_log : (step : Step) (older : List Step) (a : Actor) (entry : Entry) → In entry (log_of (step ∷ older) a)
    → ((step.0 ≡ a) × (step.1 ≡ entry)) ⊎ In entry (log_of older a)
from_log step older a entry h = elim (log_cases step older a) [
  | inl own ↦ first_or_later own.0 (subst (In entry) own.1 h)
  | inr other ↦ inr (subst (In entry) other.1 h)
]
  where
    first_or_later : step.0 ≡ a → In entry (step.1 ∷ log_of older a) → ((step.0 ≡ a) × (step.1 ≡ entry)) ⊎ In entry (log_of older a)
    first_or_later same (here e) = inl (same, e)
    first_or_later same (there later) = inr later

-- an envelope among those posted to an actor comes from an entry
pub posted_entry : (a : Actor) (log : List Entry) (envelope : Envelope) → In envelope (posted_to a log) → In (Post a envelope) log
posted_entry a [] envelope h = elim h [ ]
posted_entry a (Take from x ∷ older) envelope h = there (posted_entry a older envelope h)
posted_entry a (Post to x ∷ older) envelope h =
    elim (by_test (actor_eq to a) (actor_eq-Decides to a) (posted_to a older ++ x ∷ []) (posted_to a older)) [
      | inl same ↦ elim (In-append_cases envelope (posted_to a older) (x ∷ []) (subst (In envelope) same.1 h)) [
        | inl old ↦ there (posted_entry a older envelope old)
        | inr new ↦ here (λ i. Post (same.0 i) (In-one envelope x new i))
      ]
      | inr other ↦ there (posted_entry a older envelope (subst (In envelope) other.1 h))
    ]

-- ---- one step

-- a post adds its envelope to what its actor posted there, and to nothing else that was posted
pub posted_cases : (actor to : Actor) (x : Envelope) (older : List Step) (a b : Actor)
    → ((actor ≡ a) × (to ≡ b) × (posted_to b (log_of ((actor, Post to x) ∷ older) a) ≡ posted_to b (log_of older a) ++ x ∷ []))
    ⊎ (posted_to b (log_of ((actor, Post to x) ∷ older) a) ≡ posted_to b (log_of older a))
posted_cases actor to x older a b = elim (log_cases (actor, Post to x) older a) [
  | inl own ↦ elim (by_test (actor_eq to b) (actor_eq-Decides to b) (posted_to b (log_of older a) ++ x ∷ []) (posted_to b (log_of older a))) [
    | inl same ↦ inl (own.0, same.0, ap (posted_to b) own.1 ∙ same.1)
    | inr other ↦ inr (ap (posted_to b) own.1 ∙ other.1)
  ]
  | inr other ↦ inr (ap (posted_to b) other.1)
]

-- a take adds nothing to what was posted
pub posted_still : (actor from : Actor) (x : Envelope) (older : List Step) (a b : Actor)
    → posted_to b (log_of ((actor, Take from x) ∷ older) a) ≡ posted_to b (log_of older a)
posted_still actor from x older a b = elim (log_cases (actor, Take from x) older a) [
  | inl own ↦ ap (posted_to b) own.1
  | inr other ↦ ap (posted_to b) other.1
]

-- a take adds its envelope to what its actor took from there, and to nothing else that was taken
pub taken_cases : (actor from : Actor) (x : Envelope) (older : List Step) (a b : Actor)
    → ((actor ≡ b) × (from ≡ a) × (taken_from a (log_of ((actor, Take from x) ∷ older) b) ≡ taken_from a (log_of older b) ++ x ∷ []))
    ⊎ (taken_from a (log_of ((actor, Take from x) ∷ older) b) ≡ taken_from a (log_of older b))
taken_cases actor from x older a b = elim (log_cases (actor, Take from x) older b) [
  | inl own ↦ elim (by_test (actor_eq from a) (actor_eq-Decides from a) (taken_from a (log_of older b) ++ x ∷ []) (taken_from a (log_of older b))) [
    | inl same ↦ inl (own.0, same.0, ap (taken_from a) own.1 ∙ same.1)
    | inr other ↦ inr (ap (taken_from a) own.1 ∙ other.1)
  ]
  | inr other ↦ inr (ap (taken_from a) other.1)
]

-- a post adds nothing to what was taken
pub taken_still : (actor to : Actor) (x : Envelope) (older : List Step) (a b : Actor)
    → taken_from a (log_of ((actor, Post to x) ∷ older) b) ≡ taken_from a (log_of older b)
taken_still actor to x older a b = elim (log_cases (actor, Post to x) older b) [
  | inl own ↦ ap (taken_from a) own.1
  | inr other ↦ ap (taken_from a) other.1
]

-- ---- all steps

-- what one actor posted to another, beside what that one took: the same, or one envelope more, which is in the box
abbrev pub IsBox : List Envelope → List Envelope → Type 0
IsBox posted taken = (posted ≡ taken) ⊎ ((x : Envelope) × (posted ≡ taken ++ x ∷ []))

same_box : (posted taken posted_then taken_then : List Envelope) → posted ≡ posted_then → taken ≡ taken_then → IsBox posted_then taken_then
    → IsBox posted taken
same_box posted taken posted_then taken_then e f (inl empty) = inl (e ∙ (empty ∙ sym f))
same_box posted taken posted_then taken_then e f (inr full) = inr (full.0, e ∙ (full.1 ∙ ap (λ xs. xs ++ full.0 ∷ []) (sym f)))

module _ (shape : Shape) where
  -- each box is empty, or holds one envelope
  pub boxes : (run : List Step) → IsRun shape run → (a b : Actor) → IsBox (posted_to b (log_of run a)) (taken_from a (log_of run b))
  boxes [] is a b = inl refl
  boxes ((actor, Post to x) ∷ older) is a b =
      let still = taken_still actor to x older a b in
      elim (posted_cases actor to x older a b) [
        | inl new ↦
            let box : posted_to b (log_of older a) ≡ taken_from a (log_of older b) =
            subst (λ z. posted_to b (log_of older z) ≡ taken_from z (log_of older b)) new.0
            (subst (λ z. posted_to z (log_of older actor) ≡ taken_from actor (log_of older z)) new.1 is.1.box) in
            inr (x, new.2 ∙ ap (λ xs. xs ++ x ∷ []) (box ∙ sym still))
        | inr same ↦
            same_box (posted_to b (log_of ((actor, Post to x) ∷ older) a)) (taken_from a (log_of ((actor, Post to x) ∷ older) b))
            (posted_to b (log_of older a)) (taken_from a (log_of older b)) same still (boxes older is.0 a b)
      ]
  boxes ((actor, Take from x) ∷ older) is a b =
      let still = posted_still actor from x older a b in
      elim (taken_cases actor from x older a b) [
        | inl new ↦
            let box : posted_to b (log_of older a) ≡ taken_from a (log_of older b) ++ x ∷ [] =
            subst (λ z. posted_to z (log_of older a) ≡ taken_from a (log_of older z) ++ x ∷ []) new.0
            (subst (λ z. posted_to actor (log_of older z) ≡ taken_from z (log_of older actor) ++ x ∷ []) new.1 is.1.box) in
            inl (still ∙ (box ∙ sym new.2))
        | inr same ↦
            same_box (posted_to b (log_of ((actor, Take from x) ∷ older) a)) (taken_from a (log_of ((actor, Take from x) ∷ older) b))
            (posted_to b (log_of older a)) (taken_from a (log_of older b)) still same (boxes older is.0 a b)
      ]

  -- what a take finds in its box was posted
  pub found_was_posted : (actor from : Actor) (x : Envelope) (older : List Step) → IsRun shape ((actor, Take from x) ∷ older)
      → In (Post actor x) (log_of older from)
  found_was_posted actor from x older is =
      posted_entry actor (log_of older from) x
      (subst (In x) (sym is.1.box) (In-append_right x (taken_from from (log_of older actor)) (x ∷ []) (here refl)))

  -- what was taken from an actor, that actor posted
  pub taken_was_posted : (run : List Step) → IsRun shape run → (a b : Actor) (x : Envelope) → In (Take a x) (log_of run b)
      → In (Post b x) (log_of run a)
  taken_was_posted [] is a b x h = elim h [ ]
  taken_was_posted (step ∷ older) is a b x h = elim (from_log step older b (Take a x) h) [
    | inl new ↦
        in_log step older a (Post b x)
        (found_was_posted b a x older (subst (λ z. IsRun shape (z ∷ older)) (λ i. (new.0 i, new.1 i)) is))
    | inr old ↦ in_log step older a (Post b x) (taken_was_posted older is.0 a b x old)
  ]

  -- ---- actors

  -- only actors of the shape have entries, with actors of the shape
  pub actors_within : (run : List Step) → IsRun shape run → (a : Actor) (entry : Entry) → In entry (log_of run a)
      → IsActor shape a × IsActor shape (other_of entry)
  actors_within [] is a entry h = elim h [ ]
  actors_within (step ∷ older) is a entry h = elim (from_log step older a entry h) [
    | inl new ↦ (subst (IsActor shape) new.0 is.1.actor, subst (λ e. IsActor shape (other_of e)) new.1 is.1.other)
    | inr old ↦ actors_within older is.0 a entry old
  ]

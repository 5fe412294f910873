-- How the parties and the boxes of an audit represent the run with each further step.
use Rattle.std.proofs.Common.{◌≡◌, ◌≢◌, ◌+◌, ◌<◌, List, [], ◌∷◌, ◌++◌, None, Some, length, length-append, append-nil, ◌⊎◌, inl, inr, refl, ap, sym, ◌∙◌, subst, arith}
use Rattle.std.specs.Prelude.{slice_set, slice_index_or}
use Rattle.std.proofs.lemmas.List.{get_or-set_same, get_or-set_other, length-set}
use Rattle.std.proofs.lemmas.Option.{none-some, same_Some}
use Rattle.dsr_base.proofs.BoxLemmas.{box_same, box_other, still_square}
use Rattle.dsr_names.proofs.PlaceLemmas.{place_below, same_place}
use Rattle.dsr_names.specs.Shape.{Shape, IsActor}
use Rattle.dsr_names.specs.declared.actor.Actor.{Actor}
use Rattle.dsr_names.specs.Support.ActorEquality.{actor_eq, actor_eq-Decides}
use Rattle.dsr_slot.proofs.Lemmas.{holds_or_not, by_test}
use Rattle.dsr_envelope.specs.declared.envelope.Envelope.{Envelope}
use Rattle.dsr_envelope.specs.declared.entry.Entry.TheVariants.{Post, Take}
use Rattle.dsr_envelope.specs.Log.{posted_to, taken_from}
use Rattle.dsr_run.specs.Step.{Step, log_of}
use Rattle.dsr_base.specs.Boxes.{box_at, with_box, with_item, without_item}
use Rattle.dsr_check.specs.Support.Party.{Plays}
use Rattle.dsr_names.specs.Places.{place_of}
use Rattle.dsr_check.specs.Support.Audit.{held_in, IsBoxOf, ArePlayed, AreBoxes}
use Rattle.dsr_base.specs.declared.boxes.MailBox.{MailBox}
use Rattle.dsr_check.specs.declared.party.Party.{Party}
use Rattle.dsr_check.specs.declared.held.Held.{Held}
use Rattle.dsr_run.proofs.Lemmas.{posted_cases, posted_still, taken_cases, taken_still}
use Rattle.dsr_run.proofs.Lemmas.{log_cases}

-- ---- parties

-- the party of the step's actor plays it with the step, and all others go on
pub played_step : (shape : Shape) (older : List Step) (parties : List Party) (step : Step) (x : Party) → ArePlayed shape (log_of older) parties
    → IsActor shape step.0 → Plays shape step.0 (step.1 ∷ log_of older step.0) x
    → ArePlayed shape (log_of (step ∷ older)) (slice_set parties (place_of shape step.0) x)
played_step shape older parties step x are actor plays = record {
  count = length-set parties (place_of shape step.0) x ∙ are.count;
  each = λ who inside d. elim (log_cases step older who) [
    | inl own ↦
        let here_is : place_of shape step.0 < length parties = let below = place_below shape step.0 actor in omega (arith, below, are.count) in
        subst (λ a. Plays shape a (log_of (step ∷ older) a) (slice_index_or (slice_set parties (place_of shape step.0) x) (place_of shape a) d)) own.0
        (subst (λ y. Plays shape step.0 (log_of (step ∷ older) step.0) y) (sym (get_or-set_same parties (place_of shape step.0) x d here_is))
        (subst (λ l. Plays shape step.0 l x) (sym (subst (λ a. log_of (step ∷ older) a ≡ step.1 ∷ log_of older a) (sym own.0) own.1)) plays))
    | inr other ↦
        subst (λ l. Plays shape who l (slice_index_or (slice_set parties (place_of shape step.0) x) (place_of shape who) d)) (sym other.1)
        (subst (Plays shape who (log_of older who))
        (sym (get_or-set_other parties (place_of shape step.0) (place_of shape who) x d (λ e. other.0 (same_place shape step.0 who actor inside (sym e)))))
        (are.each who inside d))
  ];
}

-- ---- boxes

-- what is one pair of actors or another
same_pair : (shape : Shape) (from to a b : Actor) → IsActor shape from → IsActor shape to → IsActor shape a → IsActor shape b
    → ((from ≡ a) × (to ≡ b)) ⊎ (place_of shape a ≡ place_of shape from → place_of shape b ≢ place_of shape to)
same_pair shape from to a b actor other inside too = elim (holds_or_not (actor_eq from a) (actor_eq-Decides from a)) [
  | inr apart ↦ inr (λ e. absurd (apart (same_place shape from a actor inside (sym e))))
  | inl same ↦ elim (holds_or_not (actor_eq to b) (actor_eq-Decides to b)) [
    | inr apart ↦ inr (λ e f. apart (same_place shape to b other too (sym f)))
    | inl equal ↦ inl (same, equal)
  ]
]

posted_now : (from to : Actor) (x : Envelope) (older : List Step)
    → posted_to to (log_of ((from, Post to x) ∷ older) from) ≡ posted_to to (log_of older from) ++ x ∷ []
posted_now from to x older = elim (log_cases (from, Post to x) older from) [
  | inr other ↦ absurd (other.0 refl)
  | inl own ↦ elim (by_test (actor_eq to to) (actor_eq-Decides to to) (posted_to to (log_of older from) ++ x ∷ []) (posted_to to (log_of older from))) [
    | inl same ↦ ap (posted_to to) own.1 ∙ same.1
    | inr other ↦ absurd (other.0 refl)
  ]
]

taken_now : (at from : Actor) (x : Envelope) (older : List Step)
    → taken_from from (log_of ((at, Take from x) ∷ older) at) ≡ taken_from from (log_of older at) ++ x ∷ []
taken_now at from x older = elim (log_cases (at, Take from x) older at) [
  | inr other ↦ absurd (other.0 refl)
  | inl own ↦ elim (by_test (actor_eq from from) (actor_eq-Decides from from) (taken_from from (log_of older at) ++ x ∷ []) (taken_from from (log_of older at))) [
    | inl same ↦ ap (taken_from from) own.1 ∙ same.1
    | inr other ↦ absurd (other.0 refl)
  ]
]

-- a full box after a post
box_full : (box : MailBox Held) (h : Held) (posted taken : List Envelope) → h.draft.now ≡ h.envelope → box.item ≡ None → IsBoxOf box posted taken
    → IsBoxOf (with_item box h) (posted ++ h.envelope ∷ []) taken
box_full box h posted taken same_data empty is =
    let same : posted ≡ taken = is.holds ∙ (ap (λ o. taken ++ held_in o) empty ∙ append-nil taken) in
    record {
      count = let count = is.count in omega (arith, count, length-append posted (h.envelope ∷ []));
      holds = ap (λ l. l ++ h.envelope ∷ []) same;
      recorded = λ other e. subst (λ (y : Held). y.draft.now ≡ y.envelope) (same_Some h other e) same_data;
    }

-- an empty box after a take
box_emptied : (box : MailBox Held) (h : Held) (posted taken : List Envelope) → box.item ≡ Some h → IsBoxOf box posted taken
    → IsBoxOf (without_item box) posted (taken ++ h.envelope ∷ [])
box_emptied box h posted taken full is = record {
  count = is.count;
  holds = is.holds ∙ (ap (λ o. taken ++ held_in o) full ∙ sym (append-nil (taken ++ h.envelope ∷ [])));
  recorded = λ other e. absurd (none-some other e);
}

box_for : (box : MailBox Held) (posted taken later_posted later_taken : List Envelope) → later_posted ≡ posted → later_taken ≡ taken → IsBoxOf box posted taken
    → IsBoxOf box later_posted later_taken
box_for box posted taken later_posted later_taken e f is = record {
  count = is.count ∙ ap length (sym e);
  holds = e ∙ (is.holds ∙ ap (λ l. l ++ held_in box.item) (sym f));
  recorded = is.recorded;
}

-- the boxes after a post
pub boxes_posted : (shape : Shape) (older : List Step) (rows : List (List (MailBox Held))) (from to : Actor) (h : Held)
    → AreBoxes shape (log_of older) rows → IsActor shape from → IsActor shape to
    → h.draft.now ≡ h.envelope → (box_at rows (place_of shape from) (place_of shape to)).item ≡ None
    → AreBoxes shape (log_of ((from, Post to h.envelope) ∷ older))
    (with_box rows (place_of shape from) (place_of shape to) (with_item (box_at rows (place_of shape from) (place_of shape to)) h))
boxes_posted shape older rows from to h are actor other same_data empty = record {
  square = still_square (shape.n + shape.m) (place_of shape from) (place_of shape to) rows (with_item (box_at rows (place_of shape from) (place_of shape to)) h)
      are.square (place_below shape from actor);
  each = λ a b inside too. elim (same_pair shape from to a b actor other inside too) [
    | inl same ↦
        subst (λ c. IsBoxOf (box_at after (place_of shape c) (place_of shape b)) (posted_to b (log_of step c)) (taken_from c (log_of step b))) same.0
        (subst (λ c. IsBoxOf (box_at after (place_of shape from) (place_of shape c)) (posted_to c (log_of step from)) (taken_from from (log_of step c))) same.1 own)
    | inr apart ↦
        subst (λ box. IsBoxOf box (posted_to b (log_of step a)) (taken_from a (log_of step b)))
        (sym (box_other (shape.n + shape.m) (place_of shape from) (place_of shape to) (place_of shape a) (place_of shape b) rows
        (with_item (box_at rows (place_of shape from) (place_of shape to)) h) are.square (place_below shape from actor) apart))
        (box_for (box_at rows (place_of shape a) (place_of shape b)) (posted_to b (log_of older a)) (taken_from a (log_of older b))
        (posted_to b (log_of step a)) (taken_from a (log_of step b)) (posted_else a b apart) (taken_still from to h.envelope older a b) (are.each a b inside too))
  ];
}
  where
    step : List Step
    step = (from, Post to h.envelope) ∷ older

    after : List (List (MailBox Held))
    after = with_box rows (place_of shape from) (place_of shape to) (with_item (box_at rows (place_of shape from) (place_of shape to)) h)

    own : IsBoxOf (box_at after (place_of shape from) (place_of shape to)) (posted_to to (log_of step from)) (taken_from from (log_of step to))
    own =
        subst (λ box. IsBoxOf box (posted_to to (log_of step from)) (taken_from from (log_of step to)))
        (sym (box_same (shape.n + shape.m) (place_of shape from) (place_of shape to) rows (with_item (box_at rows (place_of shape from) (place_of shape to)) h)
        are.square (place_below shape from actor) (place_below shape to other)))
        (box_for (with_item (box_at rows (place_of shape from) (place_of shape to)) h) (posted_to to (log_of older from) ++ h.envelope ∷ []) (taken_from from (log_of older to))
        (posted_to to (log_of step from)) (taken_from from (log_of step to)) (posted_now from to h.envelope older) (taken_still from to h.envelope older from to)
        (box_full (box_at rows (place_of shape from) (place_of shape to)) h (posted_to to (log_of older from)) (taken_from from (log_of older to)) same_data empty
        (are.each from to actor other)))

    posted_else : (a b : Actor) → (place_of shape a ≡ place_of shape from → place_of shape b ≢ place_of shape to)
        → posted_to b (log_of step a) ≡ posted_to b (log_of older a)
    posted_else a b apart = elim (posted_cases from to h.envelope older a b) [
      | inl now ↦ absurd (apart (ap (place_of shape) (sym now.0)) (ap (place_of shape) (sym now.1)))
      | inr same ↦ same
    ]

-- the boxes after a take
pub boxes_taken : (shape : Shape) (older : List Step) (rows : List (List (MailBox Held))) (at from : Actor) (h : Held)
    → AreBoxes shape (log_of older) rows → IsActor shape at → IsActor shape from
    → (box_at rows (place_of shape from) (place_of shape at)).item ≡ Some h
    → AreBoxes shape (log_of ((at, Take from h.envelope) ∷ older))
    (with_box rows (place_of shape from) (place_of shape at) (without_item (box_at rows (place_of shape from) (place_of shape at))))
boxes_taken shape older rows at from h are actor other full = record {
  square = still_square (shape.n + shape.m) (place_of shape from) (place_of shape at) rows (without_item (box_at rows (place_of shape from) (place_of shape at)))
      are.square (place_below shape from other);
  each = λ a b inside too. elim (same_pair shape from at a b other actor inside too) [
    | inl same ↦
        subst (λ c. IsBoxOf (box_at after (place_of shape c) (place_of shape b)) (posted_to b (log_of step c)) (taken_from c (log_of step b))) same.0
        (subst (λ c. IsBoxOf (box_at after (place_of shape from) (place_of shape c)) (posted_to c (log_of step from)) (taken_from from (log_of step c))) same.1 own)
    | inr apart ↦
        subst (λ box. IsBoxOf box (posted_to b (log_of step a)) (taken_from a (log_of step b)))
        (sym (box_other (shape.n + shape.m) (place_of shape from) (place_of shape at) (place_of shape a) (place_of shape b) rows
        (without_item (box_at rows (place_of shape from) (place_of shape at))) are.square (place_below shape from other) apart))
        (box_for (box_at rows (place_of shape a) (place_of shape b)) (posted_to b (log_of older a)) (taken_from a (log_of older b))
        (posted_to b (log_of step a)) (taken_from a (log_of step b)) (posted_still at from h.envelope older a b) (taken_else a b apart) (are.each a b inside too))
  ];
}
  where
    step : List Step
    step = (at, Take from h.envelope) ∷ older

    after : List (List (MailBox Held))
    after = with_box rows (place_of shape from) (place_of shape at) (without_item (box_at rows (place_of shape from) (place_of shape at)))

    own : IsBoxOf (box_at after (place_of shape from) (place_of shape at)) (posted_to at (log_of step from)) (taken_from from (log_of step at))
    own =
        subst (λ box. IsBoxOf box (posted_to at (log_of step from)) (taken_from from (log_of step at)))
        (sym (box_same (shape.n + shape.m) (place_of shape from) (place_of shape at) rows (without_item (box_at rows (place_of shape from) (place_of shape at)))
        are.square (place_below shape from other) (place_below shape at actor)))
        (box_for (without_item (box_at rows (place_of shape from) (place_of shape at))) (posted_to at (log_of older from)) (taken_from from (log_of older at) ++ h.envelope ∷ [])
        (posted_to at (log_of step from)) (taken_from from (log_of step at)) (posted_still at from h.envelope older from at) (taken_now at from h.envelope older)
        (box_emptied (box_at rows (place_of shape from) (place_of shape at)) h (posted_to at (log_of older from)) (taken_from from (log_of older at)) full
        (are.each from at other actor)))

    taken_else : (a b : Actor) → (place_of shape a ≡ place_of shape from → place_of shape b ≢ place_of shape at)
        → taken_from a (log_of step b) ≡ taken_from a (log_of older b)
    taken_else a b apart = elim (taken_cases at from h.envelope older a b) [
      | inl now ↦ absurd (apart (ap (place_of shape) (sym now.1)) (ap (place_of shape) (sym now.0)))
      | inr same ↦ same
    ]

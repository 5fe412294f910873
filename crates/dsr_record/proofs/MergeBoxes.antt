-- How boxes go on being as logs have left them, with each entry that is merged.
use Rattle.std.proofs.Common.{◌≡◌, ◌≢◌, ℕ, Bool, true, false, List, [], ◌∷◌, ◌++◌, None, Some, length, length-append, append-nil, ◌⊎◌, inl, inr, refl, ap, sym, ◌∙◌, subst, arith, if◌then◌else◌}
use Rattle.std.proofs.lemmas.Bool.{false≢true}
use Rattle.std.proofs.lemmas.List.{append_cancel_left}
use Rattle.std.specs.Prelude.{Option}
use Rattle.dsr_base.proofs.BoxLemmas.{box_same, box_other, still_square}
use Rattle.dsr_base.specs.Boxes.{AreSquare, empty_box, box_at, with_box, with_item, without_item}
use Rattle.dsr_base.specs.declared.boxes.MailBox.{MailBox}
use Rattle.dsr_names.proofs.PlaceLemmas.{place_below, same_place}
use Rattle.dsr_names.specs.Places.{size, place_of}
use Rattle.dsr_names.specs.Shape.{Shape, IsActor}
use Rattle.dsr_names.specs.Support.ActorEquality.{actor_eq, actor_eq-Decides}
use Rattle.dsr_names.specs.declared.actor.Actor.{Actor}
use Rattle.dsr_envelope.specs.Log.{posted_to, taken_from}
use Rattle.dsr_envelope.specs.declared.entry.Entry.TheVariants.{Post, Take}
use Rattle.dsr_envelope.specs.declared.envelope.Envelope.{Envelope}
use Rattle.dsr_run.proofs.Lemmas.{log_cases, posted_cases, posted_still, taken_cases, taken_still}
use Rattle.dsr_run.specs.Step.{Step, log_of}
use Rattle.dsr_record.specs.Support.Merging.{held_in, IsBoxOf, AreBoxes}
use Rattle.dsr_record.specs.declared.mailboxes.Held.{Held}

-- an actor is the same as itself
pub same_actor : (a : Actor) → actor_eq a a ≡ true
same_actor a = (actor_eq-Decides a a).1 refl

-- two actors are one, or are at two places
one_or_two : (shape : Shape) (a b : Actor) → IsActor shape a → IsActor shape b → (a ≡ b) ⊎ (place_of shape b ≢ place_of shape a)
one_or_two shape a b actor other = by_test (actor_eq a b) (actor_eq-Decides a b).0 (actor_eq-Decides a b).1
  where
    by_test : (t : Bool) → (t ≡ true → a ≡ b) → (a ≡ b → t ≡ true) → (a ≡ b) ⊎ (place_of shape b ≢ place_of shape a)
    by_test true same back = inl (same refl)
    by_test false same back = inr (λ e. absurd (false≢true (back (same_place shape a b actor other (sym e)))))

-- what is one pair of actors or another
same_pair : (shape : Shape) (from to a b : Actor) → IsActor shape from → IsActor shape to → IsActor shape a → IsActor shape b
    → ((from ≡ a) × (to ≡ b)) ⊎ (place_of shape a ≡ place_of shape from → place_of shape b ≢ place_of shape to)
same_pair shape from to a b actor other inside too = elim (one_or_two shape from a actor inside) [
  | inr apart ↦ inr (λ e. absurd (apart e))
  | inl same ↦ elim (one_or_two shape to b other too) [
    | inr apart ↦ inr (λ e. apart)
    | inl equal ↦ inl (same, equal)
  ]
]

posted_now : (from to : Actor) (x : Envelope) (older : List Step)
    → posted_to to (log_of ((from, Post to x) ∷ older) from) ≡ posted_to to (log_of older from) ++ x ∷ []
posted_now from to x older = elim (log_cases (from, Post to x) older from) [
  | inr other ↦ absurd (other.0 refl)
  | inl own ↦
      ap (posted_to to) own.1 ∙ ap (λ t. if t then posted_to to (log_of older from) ++ x ∷ [] else posted_to to (log_of older from)) (same_actor to)
]

taken_now : (at from : Actor) (x : Envelope) (older : List Step)
    → taken_from from (log_of ((at, Take from x) ∷ older) at) ≡ taken_from from (log_of older at) ++ x ∷ []
taken_now at from x older = elim (log_cases (at, Take from x) older at) [
  | inr other ↦ absurd (other.0 refl)
  | inl own ↦
      ap (taken_from from) own.1 ∙ ap (λ t. if t then taken_from from (log_of older at) ++ x ∷ [] else taken_from from (log_of older at)) (same_actor from)
]

-- a full box after a post
box_full : (box : MailBox Held) (h : Held) (posted taken : List Envelope) → box.item ≡ None → IsBoxOf box posted taken
    → IsBoxOf (with_item box h) (posted ++ h.envelope.now ∷ []) taken
box_full box h posted taken empty is =
    let same : posted ≡ taken = is.holds ∙ (ap (λ o. taken ++ held_in o) empty ∙ append-nil taken) in
    record {
      count = let count = is.count in omega (arith, count, length-append posted (h.envelope.now ∷ []));
      holds = ap (λ l. l ++ h.envelope.now ∷ []) same;
    }

-- an empty box after a take
box_emptied : (box : MailBox Held) (h : Held) (posted taken : List Envelope) → box.item ≡ Some h → IsBoxOf box posted taken
    → IsBoxOf (without_item box) posted (taken ++ h.envelope.now ∷ [])
box_emptied box h posted taken full is = record {
  count = is.count;
  holds = is.holds ∙ (ap (λ o. taken ++ held_in o) full ∙ sym (append-nil (taken ++ h.envelope.now ∷ [])));
}

box_for : (box : MailBox Held) (posted taken later_posted later_taken : List Envelope) → later_posted ≡ posted → later_taken ≡ taken → IsBoxOf box posted taken
    → IsBoxOf box later_posted later_taken
box_for box posted taken later_posted later_taken e f is = record { count = is.count ∙ ap length (sym e); holds = e ∙ (is.holds ∙ ap (λ l. l ++ held_in box.item) (sym f)) }

-- a box from which all that was posted was taken holds nothing
pub box_is_empty : (o : Option Held) (box : MailBox Held) (posted taken : List Envelope) → box.item ≡ o → IsBoxOf box posted taken
    → posted ≡ taken → o ≡ None
box_is_empty None box posted taken is h same = refl
box_is_empty (Some x) box posted taken is h same =
    let count = ap length (sym same ∙ (h.holds ∙ ap (λ o. taken ++ held_in o) is)) in
    absurd (omega (arith, count, length-append taken (x.envelope.now ∷ [])))

-- what a box holds is the one envelope that was posted and not taken
pub box_holds : (box : MailBox Held) (h : Held) (x : Envelope) (posted taken : List Envelope) → box.item ≡ Some h → IsBoxOf box posted taken
    → posted ≡ taken ++ x ∷ [] → h.envelope.now ≡ x
box_holds box h x posted taken full is same =
    let both = sym (is.holds ∙ ap (λ o. taken ++ held_in o) full) ∙ same in
    head_is (h.envelope.now) x (append_cancel_left taken (h.envelope.now ∷ []) (x ∷ []) both)
  where
    first_of : Envelope → List Envelope → Envelope
    first_of d [] = d
    first_of d (y ∷ ys) = y

    head_is : (y z : Envelope) → y ∷ [] ≡ z ∷ [] → y ≡ z
    head_is y z e = ap (first_of y) e

-- a box that holds what was posted and not taken is not empty
pub box_is_full : (o : Option Held) (box : MailBox Held) (x : Envelope) (posted taken : List Envelope) → box.item ≡ o → IsBoxOf box posted taken
    → posted ≡ taken ++ x ∷ [] → (h : Held) × (o ≡ Some h)
box_is_full (Some h) box x posted taken is are same = (h, refl)
box_is_full None box x posted taken is are same =
    let count = ap length (sym same ∙ (are.holds ∙ (ap (λ o. taken ++ held_in o) is ∙ append-nil taken))) in
    absurd (omega (arith, count, length-append taken (x ∷ [])))

-- the boxes before any step
pub boxes_new : (shape : Shape) (rows : List (List (MailBox Held))) → AreSquare (size shape) rows → ((from to : ℕ) → box_at rows from to ≡ empty_box)
    → AreBoxes shape (log_of []) rows
boxes_new shape rows square empty = record {
  square = square;
  each = λ from to inside too. subst (λ box. IsBoxOf box [] []) (sym (empty (place_of shape from) (place_of shape to))) (record { count = refl; holds = refl });
}

-- the boxes after a post
pub boxes_posted : (shape : Shape) (older : List Step) (rows : List (List (MailBox Held))) (from to : Actor) (h : Held)
    → AreBoxes shape (log_of older) rows → IsActor shape from → IsActor shape to
    → (box_at rows (place_of shape from) (place_of shape to)).item ≡ None
    → AreBoxes shape (log_of ((from, Post to h.envelope.now) ∷ older))
    (with_box rows (place_of shape from) (place_of shape to) (with_item (box_at rows (place_of shape from) (place_of shape to)) h))
boxes_posted shape older rows from to h are actor other empty = record {
  square = still_square (size shape) (place_of shape from) (place_of shape to) rows (with_item (box_at rows (place_of shape from) (place_of shape to)) h)
      are.square (place_below shape from actor);
  each = λ a b inside too. elim (same_pair shape from to a b actor other inside too) [
    | inl same ↦
        subst (λ c. IsBoxOf (box_at after (place_of shape c) (place_of shape b)) (posted_to b (log_of step c)) (taken_from c (log_of step b))) same.0
        (subst (λ c. IsBoxOf (box_at after (place_of shape from) (place_of shape c)) (posted_to c (log_of step from)) (taken_from from (log_of step c))) same.1 own)
    | inr apart ↦
        subst (λ box. IsBoxOf box (posted_to b (log_of step a)) (taken_from a (log_of step b)))
        (sym (box_other (size shape) (place_of shape from) (place_of shape to) (place_of shape a) (place_of shape b) rows
        (with_item (box_at rows (place_of shape from) (place_of shape to)) h) are.square (place_below shape from actor) apart))
        (box_for (box_at rows (place_of shape a) (place_of shape b)) (posted_to b (log_of older a)) (taken_from a (log_of older b))
        (posted_to b (log_of step a)) (taken_from a (log_of step b)) (posted_else a b apart) (taken_still from to h.envelope.now older a b) (are.each a b inside too))
  ];
}
  where
    step : List Step
    step = (from, Post to h.envelope.now) ∷ older

    after : List (List (MailBox Held))
    after = with_box rows (place_of shape from) (place_of shape to) (with_item (box_at rows (place_of shape from) (place_of shape to)) h)

    own : IsBoxOf (box_at after (place_of shape from) (place_of shape to)) (posted_to to (log_of step from)) (taken_from from (log_of step to))
    own =
        subst (λ box. IsBoxOf box (posted_to to (log_of step from)) (taken_from from (log_of step to)))
        (sym (box_same (size shape) (place_of shape from) (place_of shape to) rows (with_item (box_at rows (place_of shape from) (place_of shape to)) h)
        are.square (place_below shape from actor) (place_below shape to other)))
        (box_for (with_item (box_at rows (place_of shape from) (place_of shape to)) h) (posted_to to (log_of older from) ++ h.envelope.now ∷ []) (taken_from from (log_of older to))
        (posted_to to (log_of step from)) (taken_from from (log_of step to)) (posted_now from to h.envelope.now older) (taken_still from to h.envelope.now older from to)
        (box_full (box_at rows (place_of shape from) (place_of shape to)) h (posted_to to (log_of older from)) (taken_from from (log_of older to)) empty
        (are.each from to actor other)))

    posted_else : (a b : Actor) → (place_of shape a ≡ place_of shape from → place_of shape b ≢ place_of shape to)
        → posted_to b (log_of step a) ≡ posted_to b (log_of older a)
    posted_else a b apart = elim (posted_cases from to h.envelope.now older a b) [
      | inl now ↦ absurd (apart (ap (place_of shape) (sym now.0)) (ap (place_of shape) (sym now.1)))
      | inr same ↦ same
    ]

-- the boxes after a take
pub boxes_taken : (shape : Shape) (older : List Step) (rows : List (List (MailBox Held))) (at from : Actor) (h : Held)
    → AreBoxes shape (log_of older) rows → IsActor shape at → IsActor shape from
    → (box_at rows (place_of shape from) (place_of shape at)).item ≡ Some h
    → AreBoxes shape (log_of ((at, Take from h.envelope.now) ∷ older))
    (with_box rows (place_of shape from) (place_of shape at) (without_item (box_at rows (place_of shape from) (place_of shape at))))
boxes_taken shape older rows at from h are actor other full = record {
  square = still_square (size shape) (place_of shape from) (place_of shape at) rows (without_item (box_at rows (place_of shape from) (place_of shape at)))
      are.square (place_below shape from other);
  each = λ a b inside too. elim (same_pair shape from at a b other actor inside too) [
    | inl same ↦
        subst (λ c. IsBoxOf (box_at after (place_of shape c) (place_of shape b)) (posted_to b (log_of step c)) (taken_from c (log_of step b))) same.0
        (subst (λ c. IsBoxOf (box_at after (place_of shape from) (place_of shape c)) (posted_to c (log_of step from)) (taken_from from (log_of step c))) same.1 own)
    | inr apart ↦
        subst (λ box. IsBoxOf box (posted_to b (log_of step a)) (taken_from a (log_of step b)))
        (sym (box_other (size shape) (place_of shape from) (place_of shape at) (place_of shape a) (place_of shape b) rows
        (without_item (box_at rows (place_of shape from) (place_of shape at))) are.square (place_below shape from other) apart))
        (box_for (box_at rows (place_of shape a) (place_of shape b)) (posted_to b (log_of older a)) (taken_from a (log_of older b))
        (posted_to b (log_of step a)) (taken_from a (log_of step b)) (posted_still at from h.envelope.now older a b) (taken_else a b apart) (are.each a b inside too))
  ];
}
  where
    step : List Step
    step = (at, Take from h.envelope.now) ∷ older

    after : List (List (MailBox Held))
    after = with_box rows (place_of shape from) (place_of shape at) (without_item (box_at rows (place_of shape from) (place_of shape at)))

    own : IsBoxOf (box_at after (place_of shape from) (place_of shape at)) (posted_to at (log_of step from)) (taken_from from (log_of step at))
    own =
        subst (λ box. IsBoxOf box (posted_to at (log_of step from)) (taken_from from (log_of step at)))
        (sym (box_same (size shape) (place_of shape from) (place_of shape at) rows (without_item (box_at rows (place_of shape from) (place_of shape at)))
        are.square (place_below shape from other) (place_below shape at actor)))
        (box_for (without_item (box_at rows (place_of shape from) (place_of shape at))) (posted_to at (log_of older from)) (taken_from from (log_of older at) ++ h.envelope.now ∷ [])
        (posted_to at (log_of step from)) (taken_from from (log_of step at)) (posted_still at from h.envelope.now older from at) (taken_now at from h.envelope.now older)
        (box_emptied (box_at rows (place_of shape from) (place_of shape at)) h (posted_to at (log_of older from)) (taken_from from (log_of older at)) full
        (are.each from at other actor)))

    taken_else : (a b : Actor) → (place_of shape a ≡ place_of shape from → place_of shape b ≢ place_of shape at)
        → taken_from a (log_of step b) ≡ taken_from a (log_of older b)
    taken_else a b apart = elim (taken_cases at from h.envelope.now older a b) [
      | inl now ↦ absurd (apart (ap (place_of shape) (sym now.1)) (ap (place_of shape) (sym now.0)))
      | inr same ↦ same
    ]

-- How the nodes and the boxes of a stage represent its run with each further step.
use Rattle.std.proofs.Common.{◌≡◌, ◌≢◌, ◌<◌, ◌&&◌, nat_lt, true, false, List, [], ◌∷◌, ◌++◌, Option, None, Some, length, inl, inr, refl, ap, sym, ◌∙◌, arith}
use Rattle.std.specs.Prelude.{slice_get, slice_set, slice_index_or}
use Rattle.std.proofs.lemmas.Bool.Decides.{Decides-and, nat_tests}
use Rattle.std.proofs.lemmas.List.{append-nil, get_or-set_same, get_or-set_other, length-set, length_push, set-get_or}
use Rattle.dsr_base.proofs.BoxLemmas.{box_same, box_other, still_square}
use Rattle.dsr_base.specs.Boxes.{box_at, with_box, with_item, without_item}
use Rattle.dsr_base.specs.declared.boxes.MailBox.{MailBox}
use Rattle.dsr_names.proofs.PlaceLemmas.{place_below, same_place}
use Rattle.dsr_names.specs.Places.{place_of}
use Rattle.dsr_names.specs.Shape.{Shape, IsActor}
use Rattle.dsr_names.specs.Support.ActorEquality.{actor_eq, actor_eq-Decides}
use Rattle.dsr_names.specs.declared.actor.Actor.{Actor}
use Rattle.dsr_slot.proofs.Lemmas.{holds_or_not}
use Rattle.dsr_envelope.specs.declared.envelope.Envelope.{Envelope}
use Rattle.dsr_envelope.specs.declared.entry.Entry.TheVariants.{Post, Take}
use Rattle.dsr_envelope.specs.Log.{posted_to, taken_from}
use Rattle.dsr_node.specs.Node.{Plays}
use Rattle.dsr_node.specs.declared.node.Node.{Node}
use Rattle.dsr_node.specs.declared.node.Node.TheVariants.{Traitor}
use Rattle.dsr_run.specs.Run.{IsNextStep}
use Rattle.dsr_run.specs.Step.{Step, Logs, log_of}
use Rattle.dsr_run.proofs.Lemmas.{log_cases, posted_cases, posted_still, taken_cases, taken_still}
use Rattle.dsr_world.specs.Support.Boxes.{held_in, IsBoxOf}
use Rattle.dsr_world.specs.Support.StageFields.{ArePlayed, AreBoxes}

-- ---- logs

same_actor : (a : Actor) → actor_eq a a ≡ true
same_actor a = (actor_eq-Decides a a).1 refl

-- a step goes into the log of its actor, and into no other
pub log_own : (step : Step) (older : List Step) → log_of (step ∷ older) step.0 ≡ step.1 ∷ log_of older step.0
log_own step older = rw (same_actor step.0)

pub log_other : (step : Step) (older : List Step) (a : Actor) → ¬ (step.0 ≡ a) → log_of (step ∷ older) a ≡ log_of older a
log_other step older a apart = elim (log_cases step older a) [ inl own ↦ absurd (apart own.0) | inr other ↦ other.1 ]

-- ---- nodes

module _ (shape : Shape) (nodes : List Node) (logs later : Logs) (who : Actor) (are : ArePlayed shape logs nodes) (actor : IsActor shape who)
    (others : (a : Actor) → ¬ (who ≡ a) → later a ≡ logs a) where
  -- one actor's node changes, and plays its log as that is then
  pub played_with : (x : Node) → Plays shape who (later who) x → ArePlayed shape later (slice_set nodes (place_of shape who) x)
  played_with x plays = record {
    count = length-set nodes (place_of shape who) x ∙ are.count;
    each = λ a inside d. elim (holds_or_not (actor_eq who a) (actor_eq-Decides who a)) [
      | inl same ↦
          let below = place_below shape who actor in
          let within : place_of shape who < length nodes = omega arith in
          rw (← same, get_or-set_same nodes (place_of shape who) x d within) plays
      | inr apart ↦
          let elsewhere : place_of shape a ≢ place_of shape who = λ e. apart (same_place shape who a actor inside (sym e)) in
          rw (others a apart, get_or-set_other nodes (place_of shape who) (place_of shape a) x d elsewhere) (are.each a inside d)
    ];
  }

  -- or it is left as it is, and plays on
  pub played_on : ((x : Node) → Plays shape who (logs who) x → Plays shape who (later who) x) → ArePlayed shape later nodes
  played_on on =
      let x = slice_index_or nodes (place_of shape who) Traitor in
      rw set-get_or at (played_with x (on x (are.each who actor Traitor)))

-- ---- boxes

-- the envelope at the end of a list
pub last_of : (xs : List Envelope) (x : Envelope) → slice_get (xs ++ x ∷ []) (length xs) ≡ Some x
last_of [] x = refl
last_of (y ∷ xs) x = last_of xs x

-- what is in a box that is not full: nothing
pub all_taken : (o : Option Envelope) (posted taken : List Envelope) → posted ≡ taken ++ held_in o → nat_lt (length taken) (length posted) ≡ false
    → posted ≡ taken
all_taken None posted taken holds room = holds ∙ append-nil taken
all_taken (Some x) posted taken holds room =
    let more = ap length holds ∙ length_push taken x in
    absurd (grind (arith, nat_tests))

-- one box and the logs of its two actors change; what went between any other two stays
boxes_with : (shape : Shape) (logs later : Logs) (rows : List (List (MailBox Envelope))) (from to : Actor) (box : MailBox Envelope) → AreBoxes shape logs rows
    → IsActor shape from → IsActor shape to → IsBoxOf box (posted_to to (later from)) (taken_from from (later to))
    → ((a b : Actor) → ¬ ((from ≡ a) × (to ≡ b)) → (posted_to b (later a) ≡ posted_to b (logs a)) × (taken_from a (later b) ≡ taken_from a (logs b)))
    → AreBoxes shape later (with_box rows (place_of shape from) (place_of shape to) box)
boxes_with shape logs later rows from to box are actor other own others =
    let below = place_below shape from actor in
    record {
      square = still_square _ _ (place_of shape to) rows box are.square below;
      each = λ a b inside too. elim (holds_or_not (actor_eq from a && actor_eq to b)
          (Decides-and (actor_eq from a) (actor_eq to b) (actor_eq-Decides from a) (actor_eq-Decides to b))) [
            | inl same ↦ rw (← same.0, ← same.1, box_same _ _ _ rows box are.square below (place_below shape to other)) own
            | inr apart ↦
                let still = others a b apart in
                let elsewhere : place_of shape a ≡ place_of shape from → place_of shape b ≢ place_of shape to =
                λ e f. apart (same_place shape from a actor inside (sym e), same_place shape to b other too (sym f)) in
                rw (box_other _ _ _ (place_of shape a) (place_of shape b) rows box are.square below elsewhere, still.0, still.1) (are.each a b inside too)
          ];
    }

module _ (shape : Shape) (older : List Step) (rows : List (List (MailBox Envelope))) (are : AreBoxes shape (log_of older) rows) (from to : Actor) (x : Envelope) where
  -- the boxes after a post
  pub boxes_posted : IsNextStep shape (log_of older) (from, Post to x) → AreBoxes shape (log_of ((from, Post to x) ∷ older))
      (with_box rows (place_of shape from) (place_of shape to) (with_item (box_at rows (place_of shape from) (place_of shape to)) x))
  boxes_posted next =
      let box = box_at rows (place_of shape from) (place_of shape to) in
      let before = (are.each from to next.actor next.other).count in
      let more = length_push (posted_to to (log_of older from)) x in
      boxes_with shape (log_of older) (log_of ((from, Post to x) ∷ older)) rows from to (with_item box x) are next.actor next.other
      (rw (log_own (from, Post to x) older, same_actor to, taken_still from to x older from to)
      (record { count = omega arith; holds = ap (λ l. l ++ x ∷ []) next.box }))
      (λ a b apart. (
        elim (posted_cases from to x older a b) [ inl now ↦ absurd (apart (now.0, now.1)) | inr same ↦ same ],
        taken_still from to x older a b,
      ))

  -- the boxes after a take
  pub boxes_taken : IsNextStep shape (log_of older) (to, Take from x) → AreBoxes shape (log_of ((to, Take from x) ∷ older))
      (with_box rows (place_of shape from) (place_of shape to) (without_item (box_at rows (place_of shape from) (place_of shape to))))
  boxes_taken next =
      let box = box_at rows (place_of shape from) (place_of shape to) in
      let before = are.each from to next.other next.actor in
      boxes_with shape (log_of older) (log_of ((to, Take from x) ∷ older)) rows from to (without_item box) are next.other next.actor
      (rw (posted_still to from x older from to, log_own (to, Take from x) older, same_actor from)
      (record { count = before.count; holds = next.box ∙ sym (append-nil (taken_from from (log_of older to) ++ x ∷ [])) }))
      (λ a b apart. (
        posted_still to from x older a b,
        elim (taken_cases to from x older a b) [ inl now ↦ absurd (apart (now.1, now.0)) | inr same ↦ same ],
      ))

-- A step on one box keeps the rule: the views of others stay true, and other boxes are as they were.
use Rattle.std.proofs.Common.{◌≡◌, ◌≢◌, ℕ, ◌+◌, ◌<◌, List, [], ◌∷◌, length, ◌⊎◌, inl, inr, ⊎_elim, sym, ◌∙◌, subst, arith}
use Rattle.std.specs.Prelude.{Option, slice_index, slice_set}
use Rattle.std.proofs.lemmas.List.{get_or-set_same, get_or-set_other, length-set}
use mathlib.Core.Option.{some}
use mathlib.Core.Option as maybe
use lib.ListN.{get_elem?}
use Rattle.atomic_table.proofs.Lists.{at_set}
use Rattle.dsr_base.specs.Growth.{Extends}
use Rattle.dsr_names.specs.Places.{place_of}
use Rattle.dsr_names.specs.Shape.{Shape, IsActor}
use Rattle.dsr_names.specs.declared.actor.Actor.{Actor}
use Rattle.dsr_envelope.specs.declared.envelope.Envelope.{Envelope}
use Rattle.dsr_envelope.specs.declared.entry.Entry.{Entry}
use Rattle.dsr_envelope.specs.Log.{posted_to, taken_from}
use Rattle.dsr_run.specs.Run.{IsRun}
use Rattle.dsr_run.specs.Step.{Step, log_of}
use Rattle.dsr_run.proofs.Lemmas.{extends_on}
use Rattle.dsr_boxes.specs.declared.view.Doing.{Doing}
use Rattle.dsr_boxes.specs.declared.view.Doing.TheVariants.{Resting, Filling, Emptying, Recalling}
use Rattle.dsr_boxes.specs.declared.view.Part.{Part}
use Rattle.dsr_boxes.specs.declared.view.Part.TheVariants.{Keeping, Sitting, Watching}
use Rattle.dsr_boxes.specs.declared.view.View.{View}
use Rattle.dsr_boxes.specs.Place.{slot_of, word_of}
use Rattle.dsr_boxes.specs.Rule.{Table, IsOf, IsDoing, HasLogs, ArePast, Stands, Agrees, IsHead, Kept}
use Rattle.dsr_boxes.proofs.Numbers.{word_below, one_or_apart}

-- a step of `me` on the box from p to q: the run before the step and after it, the box's word before it (`old`) and after it (`new`), and what is
-- at home in the box's slot after it
pub record IsMove (shape : Shape) (run after : List Step) (me p q : Actor) (old new : ℕ) (home : maybe.Option (maybe.Option (Option Envelope))) : Type 0 where
  pub is : IsRun shape after
  pub grows : Extends after run
  pub others : (a : Actor) → me ≢ a → log_of after a ≡ log_of run a
  pub fills : old ≡ 1 → p ≡ me
  pub empties : old ≡ 3 → q ≡ me
  pub posted : (a b : Actor) → ((a ≡ p) × (b ≡ q)) ⊎ (posted_to b (log_of after a) ≡ posted_to b (log_of run a))
  pub taken : (a b : Actor) → ((a ≡ p) × (b ≡ q)) ⊎ (taken_from a (log_of after b) ≡ taken_from a (log_of run b))
  pub agrees : Agrees new (posted_to q (log_of after p)) (taken_from p (log_of after q)) home

-- what is at home after it
pub record IsHome (homes after : List (maybe.Option (Option Envelope))) (slot : ℕ) (home : maybe.Option (maybe.Option (Option Envelope))) : Type 0 where
  pub long : length after ≡ length homes
  pub own : get_elem? after slot ≡ home
  pub others : (k : ℕ) → k ≢ slot → get_elem? after k ≡ get_elem? homes k

module _ (shape : Shape) (run after : List Step) (me p q : Actor) (words : List ℕ) (new : ℕ) (home : maybe.Option (maybe.Option (Option Envelope)))
    (move : IsMove shape run after me p q (slice_index words (word_of shape p q)) new home) (in_p : IsActor shape p) (in_q : IsActor shape q) where
  abbrev changed : List ℕ
  changed = slice_set words (word_of shape p q) new

  -- the word of another box
  word_other : (a b : Actor) → word_of shape a b ≢ word_of shape p q → slice_index changed (word_of shape a b) ≡ slice_index words (word_of shape a b)
  word_other a b apart = get_or-set_other words (word_of shape p q) (word_of shape a b) new 0 apart

  doing_on : (who : Actor) → IsActor shape who → me ≢ who → (doing : Doing) → IsDoing shape words run who doing → IsDoing shape changed after who doing
  doing_on who inside apart Resting is = tt
  doing_on who inside apart (Filling to) is = elim (one_or_apart shape who to p q inside is.0 in_p in_q) [
    | inr other ↦ (is.0, word_other who to other.1 ∙ is.1)
    | inl same ↦
        let one = subst (λ a. slice_index words (word_of shape a q) ≡ 1) same.0 (subst (λ b. slice_index words (word_of shape who b) ≡ 1) same.1 is.1) in
        absurd (apart (sym (move.fills one) ∙ sym same.0))
  ]
  doing_on who inside apart (Emptying from) is = elim (one_or_apart shape from who p q is.0 inside in_p in_q) [
    | inr other ↦ (is.0, word_other from who other.1 ∙ is.1)
    | inl same ↦
        let three = subst (λ a. slice_index words (word_of shape a q) ≡ 3) same.0 (subst (λ b. slice_index words (word_of shape from b) ≡ 3) same.1 is.1) in
        absurd (apart (sym (move.empties three) ∙ sym same.1))
  ]
  doing_on who inside apart (Recalling past) is = extends_on after run past move.grows is

  past_on : (moments : List (List Step)) → ArePast run moments → ArePast after moments
  past_on [] are = tt
  past_on (past ∷ moments) are = (extends_on after run past move.grows are.0, past_on moments are.1)

  logs_on : (kept : List (List Entry)) → ((a : Actor) → IsActor shape a → place_of shape a < length kept → me ≢ a) → HasLogs shape run kept → HasLogs shape after kept
  logs_on kept apart stand a inside low = move.others a (apart a inside low) ∙ stand a inside low

  -- the view of others stays true
  pub stands_on : (part : Part) → ¬ IsOf shape part me → Stands shape words run part → Stands shape changed after part
  stands_on (Keeping kept) apart stand =
      logs_on kept (λ a inside low e. apart (subst (λ x. IsActor shape x × (place_of shape x < length kept)) (sym e) (inside, low))) stand
  stands_on (Watching kept moments) apart stand = (
    logs_on kept (λ a inside low e. apart (subst (λ x. IsActor shape x × (place_of shape x < length kept)) (sym e) (inside, low))) stand.0,
    past_on moments stand.1,
  )
  stands_on (Sitting who log doing) apart stand =
      let other : me ≢ who = λ e. apart (sym e) in
      (stand.0, move.others who other ∙ stand.1, doing_on who stand.0 other doing stand.2)

  pub box_on : (homes homes_after : List (maybe.Option (Option Envelope))) → IsHome homes homes_after (slot_of shape p q) home
      → word_of shape p q < length words → (a b : Actor) → IsActor shape a → IsActor shape b
      → Agrees (slice_index words (word_of shape a b)) (posted_to b (log_of run a)) (taken_from a (log_of run b)) (get_elem? homes (slot_of shape a b))
      → Agrees (slice_index changed (word_of shape a b)) (posted_to b (log_of after a)) (taken_from a (log_of after b)) (get_elem? homes_after (slot_of shape a b))
  box_on homes homes_after at low a b in_a in_b agrees = elim (one_or_apart shape a b p q in_a in_b in_p in_q) [
    | inl same ↦
        let now = subst (λ h. Agrees new (posted_to q (log_of after p)) (taken_from p (log_of after q)) h) (sym at.own) move.agrees in
        let there = subst (λ w. Agrees w (posted_to q (log_of after p)) (taken_from p (log_of after q)) (get_elem? homes_after (slot_of shape p q)))
        (sym (get_or-set_same words (word_of shape p q) new 0 low)) now in
        subst (λ x. Agrees (slice_index changed (word_of shape x b)) (posted_to b (log_of after x)) (taken_from x (log_of after b)) (get_elem? homes_after (slot_of shape x b))) (sym same.0)
        (subst (λ y. Agrees (slice_index changed (word_of shape p y)) (posted_to y (log_of after p)) (taken_from p (log_of after y)) (get_elem? homes_after (slot_of shape p y))) (sym same.1) there)
    | inr other ↦
        let put = ⊎_elim (λ (same : (a ≡ p) × (b ≡ q)). absurd (other.0 (λ i. slot_of shape (same.0 i) (same.1 i))))
        (λ (e : posted_to b (log_of after a) ≡ posted_to b (log_of run a)). e) (move.posted a b) in
        let got = ⊎_elim (λ (same : (a ≡ p) × (b ≡ q)). absurd (other.0 (λ i. slot_of shape (same.0 i) (same.1 i))))
        (λ (e : taken_from a (log_of after b) ≡ taken_from a (log_of run b)). e) (move.taken a b) in
        subst (λ w. Agrees w (posted_to b (log_of after a)) (taken_from a (log_of after b)) (get_elem? homes_after (slot_of shape a b))) (sym (word_other a b other.1))
        (subst (λ l. Agrees (slice_index words (word_of shape a b)) l (taken_from a (log_of after b)) (get_elem? homes_after (slot_of shape a b))) (sym put)
        (subst (λ l. Agrees (slice_index words (word_of shape a b)) (posted_to b (log_of run a)) l (get_elem? homes_after (slot_of shape a b))) (sym got)
        (subst (λ h. Agrees (slice_index words (word_of shape a b)) (posted_to b (log_of run a)) (taken_from a (log_of run b)) h) (sym (at.others (slot_of shape a b) other.0)) agrees)))
  ]

  pub head_on : IsHead shape words → IsHead shape changed
  head_on head = record {
    n = first 0 (omega arith) ∙ head.n;
    f = first 1 (omega arith) ∙ head.f;
    m = first 2 (omega arith) ∙ head.m;
    traitors = first 3 (omega arith) ∙ head.traitors;
  }
    where
      first : (i : ℕ) → i < 4 → slice_index changed i ≡ slice_index words i
      first i low = get_or-set_other words (word_of shape p q) i new 0 (behind (slot_of shape p q) i low)
        where
          behind : (slot i : ℕ) → i < 4 → i ≢ 4 + slot
          behind slot i low e = omega (arith, low, e)

-- a step of `me`, whose view has the number `id`, on the box from p to q keeps the rule
unfoldable pub moved : (shape : Shape) (table : Table) (kept : Kept shape table) (after : List Step) (me p q : Actor) (new : ℕ) (home : maybe.Option (maybe.Option (Option Envelope)))
    → IsMove shape kept.run after me p q (slice_index table.words (word_of shape p q)) new home → IsActor shape p → IsActor shape q
    → (homes : List (maybe.Option (Option Envelope))) → IsHome table.homes homes (slot_of shape p q) home
    → (id : ℕ) (v w : View) → get_elem? table.views id ≡ some v → IsOf shape v.part me
    → ((a : Actor) → IsOf shape w.part a → IsOf shape v.part a)
    → Stands shape (slice_set table.words (word_of shape p q) new) after w.part
    → Kept shape (record { words = slice_set table.words (word_of shape p q) new; homes = homes; views = slice_set table.views id w })
moved shape table kept after me p q new home move in_p in_q homes at id v w there own same stand = record {
  allowed = kept.allowed;
  run = after;
  is = move.is;
  head = head_on shape kept.run after me p q table.words new home move in_p in_q kept.head;
  wide = length-set table.words (word_of shape p q) new ∙ kept.wide;
  deep = at.long ∙ kept.deep;
  stand = λ i u e. elim (at_set table.views id i w u e) [
    | inl here ↦ subst (λ x. Stands shape (slice_set table.words (word_of shape p q) new) after x.part) here.1 stand
    | inr other ↦
        stands_on shape kept.run after me p q table.words new home move in_p in_q u.part
        (λ of_me. other.0 (kept.apart i id u v me other.1 there of_me own)) (kept.stand i u other.1)
  ];
  apart = λ i j u x a e f of_u of_x.
      let one = was i u a e of_u in let two = was j x a f of_x in
      kept.apart i j one.0 two.0 a one.1 two.1 one.2 two.2;
  boxes = λ a b in_a in_b.
      box_on shape kept.run after me p q table.words new home move in_p in_q table.homes homes at
      (let low = word_below shape p q in_p in_q in subst (λ n. word_of shape p q < n) (sym kept.wide) low) a b in_a in_b (kept.boxes a b in_a in_b);
}
  where
    -- who is of a view was of the view with its number
    was : (i : ℕ) (u : View) (a : Actor) → get_elem? (slice_set table.views id w) i ≡ some u → IsOf shape u.part a
        → (x : View) × (get_elem? table.views i ≡ some x) × IsOf shape x.part a
    was i u a e of_u = elim (at_set table.views id i w u e) [
      | inl here ↦ (v, subst (λ k. get_elem? table.views k ≡ some v) (sym here.0) there, same a (subst (λ x. IsOf shape x.part a) (sym here.1) of_u))
      | inr other ↦ (u, other.1, of_u)
    ]

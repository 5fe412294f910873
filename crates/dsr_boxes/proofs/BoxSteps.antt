-- The four steps on a word (claim, publish, fetch and release) keep the rule.
use Rattle.std.proofs.Common.{◌≡◌, ◌≢◌, ℕ, zero, suc, ◌<◌, List, [], ◌∷◌, ◌++◌, length, inl, inr, refl, ap, sym, ◌∙◌, subst, arith, eqb, if◌then◌else◌}
use Rattle.std.specs.Prelude.{Option, None, Some, slice_index, slice_set}
use Rattle.std.proofs.lemmas.List.{get_or-set_same, length-set}
use mathlib.Core.Option.{none, some}
use mathlib.Core.Option as maybe
use lib.ListN.{get_elem?}
use prog.Atomic.{either}
use Rattle.atomic_table.specs.Table.{Step as TableStep, step, Act, keeps, takes, gives, Allows, Valid, stepped, carried_after}
use Rattle.atomic_table.proofs.Lists.{set_here, set_else, set_again, exchanged}
use Rattle.dsr_names.specs.Shape.{Shape, IsActor}
use Rattle.dsr_names.specs.declared.actor.Actor.{Actor}
use Rattle.dsr_names.specs.Support.ActorEquality.{actor_eq-Decides}
use Rattle.dsr_envelope.specs.declared.envelope.Envelope.{Envelope}
use Rattle.dsr_envelope.specs.declared.entry.Entry.{Entry}
use Rattle.dsr_envelope.specs.declared.entry.Entry.TheVariants.{Post, Take}
use Rattle.dsr_envelope.specs.Limits.{IsEnvelope}
use Rattle.dsr_envelope.specs.Log.{posted_to, taken_from}
use Rattle.dsr_run.specs.OwnStep.{KeepsOwn, MayPost, HasPostsLeft}
use Rattle.dsr_run.specs.Run.{IsRun, IsNextStep}
use Rattle.dsr_run.specs.Step.{Step, log_of}
use Rattle.dsr_run.proofs.Lemmas.{log_cases, posted_cases, posted_still, taken_cases, taken_still, posted_entry, posted_within, post_next, take_next, own_keeps}
use Rattle.dsr_base.specs.Member.{In, here}
use Rattle.dsr_base.proofs.MemberLemmas.{In-append_right}
use Rattle.dsr_boxes.specs.declared.view.Doing.TheVariants.{Resting, Filling, Emptying}
use Rattle.dsr_boxes.specs.declared.view.View.{View}
use Rattle.dsr_boxes.specs.Pass.{IsInRun, MayTake}
use Rattle.dsr_boxes.specs.Place.{slot_of, word_of}
use Rattle.dsr_boxes.specs.Play.{Claims, Publishes, Fetches, Releases}
use Rattle.dsr_boxes.specs.Rule.{Table, Agrees, Kept}
use Rattle.dsr_boxes.specs.View.{Holding, sitting, resting, filling, emptying}
use Rattle.dsr_boxes.proofs.Moves.{IsMove, IsHome, moved}
use Rattle.dsr_boxes.proofs.Numbers.{one_word, slot_below, word_below}

-- a word is not two numbers
pub never : (n a b : ℕ) → n ≡ a → n ≡ b → a ≢ b → ⊥
never n a b e f apart = apart (sym e ∙ f)

-- ---- what is at home

pub home_is : (homes : List (maybe.Option (Option Envelope))) (slot : ℕ) (x : maybe.Option (Option Envelope)) → slot < length homes
    → IsHome homes (slice_set homes slot x) slot (some x)
home_is homes slot x low = record { long = length-set homes slot x; own = set_here homes slot x low; others = λ k apart. set_else homes slot k x apart }

-- ---- what a step adds

module _ (shape : Shape) (run : List Step) where
  -- what a box holds is within the limits
  pub held_within : IsRun shape run → (me from : Actor) (x : Envelope) → posted_to me (log_of run from) ≡ taken_from from (log_of run me) ++ x ∷ [] → IsEnvelope x
  held_within is me from x full =
      let stands : In x (posted_to me (log_of run from)) =
      subst (In x) (sym full) (In-append_right x (taken_from from (log_of run me)) (x ∷ []) (here refl)) in
      posted_within shape run is from me x (posted_entry me (log_of run from) x stands)

  -- a step that adds nothing to the run
  pub silent : (me p q : Actor) (old new : ℕ) (home : maybe.Option (maybe.Option (Option Envelope))) → IsRun shape run → (old ≡ 1 → p ≡ me) → (old ≡ 3 → q ≡ me)
      → Agrees new (posted_to q (log_of run p)) (taken_from p (log_of run q)) home → IsMove shape run run me p q old new home
  silent me p q old new home is fills empties agrees = record {
    is = is;
    grows = ([], refl);
    others = λ a apart. refl;
    fills = fills;
    empties = empties;
    posted = λ a b. inr refl;
    taken = λ a b. inr refl;
    agrees = agrees;
  }

  other_log : (me : Actor) (entry : Entry) (a : Actor) → me ≢ a → log_of ((me, entry) ∷ run) a ≡ log_of run a
  other_log me entry a apart = elim (log_cases (me, entry) run a) [
    | inl own ↦ absurd (apart own.0)
    | inr other ↦ other.1
  ]

  pub own_log : (me : Actor) (entry : Entry) → log_of ((me, entry) ∷ run) me ≡ entry ∷ log_of run me
  own_log me entry = elim (log_cases (me, entry) run me) [
    | inl own ↦ own.1
    | inr other ↦ absurd (other.0 refl)
  ]

  post_own : (me to : Actor) (x : Envelope) → posted_to to (log_of ((me, Post to x) ∷ run) me) ≡ posted_to to (log_of run me) ++ x ∷ []
  post_own me to x = ap (posted_to to) (own_log me (Post to x)) ∙ hit
    where
      hit : posted_to to (Post to x ∷ log_of run me) ≡ posted_to to (log_of run me) ++ x ∷ []
      hit = ap (λ b. if b then posted_to to (log_of run me) ++ x ∷ [] else posted_to to (log_of run me)) ((actor_eq-Decides to to).1 refl)

  take_own : (me from : Actor) (x : Envelope) → taken_from from (log_of ((me, Take from x) ∷ run) me) ≡ taken_from from (log_of run me) ++ x ∷ []
  take_own me from x = ap (taken_from from) (own_log me (Take from x)) ∙ hit
    where
      hit : taken_from from (Take from x ∷ log_of run me) ≡ taken_from from (log_of run me) ++ x ∷ []
      hit = ap (λ b. if b then taken_from from (log_of run me) ++ x ∷ [] else taken_from from (log_of run me)) ((actor_eq-Decides from from).1 refl)

  -- a post, of a box whose poster fills it
  pub posting : (me to : Actor) (x : Envelope) (old : ℕ) → IsRun shape run → IsNextStep shape (log_of run) (me, Post to x) → (old ≡ 3 → to ≡ me)
      → posted_to to (log_of run me) ≡ taken_from me (log_of run to)
      → IsMove shape run ((me, Post to x) ∷ run) me me to old 2 (some (some (Some x)))
  posting me to x old is next empties empty = record {
    is = (is, next);
    grows = ((me, Post to x) ∷ [], refl);
    others = λ a apart. other_log me (Post to x) a apart;
    fills = λ e. refl;
    empties = empties;
    posted = λ a b. elim (posted_cases me to x run a b) [
      | inl own ↦ inl (sym own.0, sym own.1)
      | inr still ↦ inr still
    ];
    taken = λ a b. inr (taken_still me to x run a b);
    agrees = (x, post_own me to x ∙ ap (λ l. l ++ x ∷ []) (empty ∙ sym (taken_still me to x run me to)), refl);
  }

  -- a take, of a box that is full
  pub taking : (me from : Actor) (x : Envelope) (old : ℕ) (home : maybe.Option (maybe.Option (Option Envelope))) → IsRun shape run
      → IsNextStep shape (log_of run) (me, Take from x) → (old ≡ 1 → from ≡ me)
      → posted_to me (log_of run from) ≡ taken_from from (log_of run me) ++ x ∷ []
      → IsMove shape run ((me, Take from x) ∷ run) me from me old 3 home
  taking me from x old home is next fills full = record {
    is = (is, next);
    grows = ((me, Take from x) ∷ [], refl);
    others = λ a apart. other_log me (Take from x) a apart;
    fills = fills;
    empties = λ e. refl;
    posted = λ a b. inr (posted_still me from x run a b);
    taken = λ a b. elim (taken_cases me from x run a b) [
      | inl own ↦ inl (sym own.1, sym own.0)
      | inr still ↦ inr still
    ];
    agrees = posted_still me from x run from me ∙ (full ∙ sym (take_own me from x));
  }

pub set_same : (ns : List ℕ) (i : ℕ) → slice_set ns i (slice_index ns i) ≡ ns
set_same [] i = refl
set_same (n ∷ ns) zero = refl
set_same (n ∷ ns) (suc i) = λ j. n ∷ set_same ns i j

-- nothing changed
pub unmoved : (shape : Shape) (table : Table) (i id : ℕ) (v : View) → get_elem? table.views id ≡ some v → Kept shape table
    → Kept shape (record { words = slice_set table.words i (slice_index table.words i); homes = table.homes; views = slice_set table.views id v })
unmoved shape table i id v there kept =
    subst (λ ws. Kept shape (record { words = ws; homes = table.homes; views = slice_set table.views id v })) (sym (set_same table.words i))
    (subst (λ vs. Kept shape (record { words = table.words; homes = table.homes; views = vs })) (sym (set_again table.views id v there)) kept)

-- ---- the steps

-- the log of an actor in a run
pub in_run : (shape : Shape) (run : List Step) → IsRun shape run → (me : Actor) (log : List Entry) → log_of run me ≡ log → IsInRun shape me log
in_run shape run is me log own = record { logs = log_of run; are = record { run = run; is = is; each = λ a. refl }; own = own }

module _ (shape : Shape) (slots id : ℕ) (me : Actor) (log : List Entry) (in_me : IsActor shape me) where
  abbrev Outcome : Table → ℕ → List (ℕ × Option Envelope) → (ℕ → Holding → Type 0) → ℕ → Type 0
  Outcome s i held told n =
      (w : View) × (a : Act (Option Envelope)) × Valid s.homes held a × Kept shape (stepped s i n id held w a) × told (slice_index s.words i) (w, carried_after held a)

  -- ---- claim

  module _ (to : Actor) (in_to : IsActor shape to) where
    abbrev claim_step : TableStep (Option Envelope)
    claim_step = step slots (word_of shape me to) 0 1 none

    unfoldable pub claim_hit : (s : Table) → (kept : Kept shape s) → get_elem? s.views id ≡ some (sitting shape me log Resting) → slice_index s.words (word_of shape me to) ≡ 0
        → Outcome s (word_of shape me to) [] (Claims claim_step (resting shape me log)) 1
    claim_hit s kept there empty =
        let box = subst (λ w. Agrees w (posted_to to (log_of kept.run me)) (taken_from me (log_of kept.run to)) (get_elem? s.homes (slot_of shape me to)))
        empty (kept.boxes me to in_me in_to) in
        let low : slot_of shape me to < length s.homes = subst (λ n. slot_of shape me to < n) (sym kept.deep) (slot_below shape me to in_me in_to) in
        let own = kept.stand id (sitting shape me log Resting) there in
        let low_word : word_of shape me to < length s.words = subst (λ n. word_of shape me to < n) (sym kept.wide) (word_below shape me to in_me in_to) in (
          sitting shape me log (Filling to),
          takes (slot_of shape me to) None,
          box.1,
          moved shape s kept kept.run me me to 1 (some none)
              (silent shape kept.run me me to (slice_index s.words (word_of shape me to)) 1 (some none) kept.is (λ e. refl)
              (λ e. absurd (never (slice_index s.words (word_of shape me to)) 0 3 empty e (omega arith))) box.0)
              in_me in_to (slice_set s.homes (slot_of shape me to) none) (home_is s.homes (slot_of shape me to) none low) id
              (sitting shape me log Resting) (sitting shape me log (Filling to)) there refl (λ a of. of)
              (own.0, own.1, (in_to, get_or-set_same s.words (word_of shape me to) 1 0 low_word)),
          λ other in_other same.
              let one = one_word shape me to me other in_me in_to in_me in_other same in
              ((λ e i. filling shape me log (one.1 i) None), λ full. absurd (full empty)),
        )

    claim_miss : (s : Table) → (kept : Kept shape s) → get_elem? s.views id ≡ some (sitting shape me log Resting) → slice_index s.words (word_of shape me to) ≢ 0
        → Outcome s (word_of shape me to) [] (Claims claim_step (resting shape me log)) (slice_index s.words (word_of shape me to))
    claim_miss s kept there full = (
      sitting shape me log Resting,
      keeps,
      tt,
      unmoved shape s (word_of shape me to) id (sitting shape me log Resting) there kept,
      λ other in_other same. ((λ e. absurd (full e)), λ ne. refl),
    )

    pub claims : Allows (Kept shape) slots id (resting shape me log) (word_of shape me to) (λ n. either (eqb n 0) 1 n) (Claims claim_step (resting shape me log))
    claims s kept long there small =
        exchanged (slice_index s.words (word_of shape me to)) 0 1 (Outcome s (word_of shape me to) [] (Claims claim_step (resting shape me log)))
        (λ empty. claim_hit s kept there empty) (λ full. claim_miss s kept there full)

    -- ---- publish

    module _ (x : Envelope) (may : MayPost shape me log to x) (left : HasPostsLeft log to) where
      abbrev publish_step : TableStep (Option Envelope)
      publish_step = step slots (word_of shape me to) 1 2 none

      unfoldable pub publish_hit : (s : Table) → (kept : Kept shape s) → get_elem? s.views id ≡ some (sitting shape me log (Filling to))
          → slice_index s.words (word_of shape me to) ≡ 1
          → Outcome s (word_of shape me to) ((slot_of shape me to, Some x) ∷ []) (Publishes publish_step (filling shape me log to (Some x))) 2
      publish_hit s kept there fills =
          let own = kept.stand id (sitting shape me log (Filling to)) there in
          let empty = subst (λ w. Agrees w (posted_to to (log_of kept.run me)) (taken_from me (log_of kept.run to)) (get_elem? s.homes (slot_of shape me to)))
          fills (kept.boxes me to in_me in_to) in
          let low : slot_of shape me to < length s.homes = subst (λ n. slot_of shape me to < n) (sym kept.deep) (slot_below shape me to in_me in_to) in
          let may_now = subst (λ l. MayPost shape me l to x) (sym own.1) may in
          let next = post_next shape kept.allowed kept.run kept.is me to x in_me in_to
          (own_keeps shape kept.allowed kept.run kept.is me to x in_me may_now) may_now.fits
          (subst (λ l. HasPostsLeft l to) (sym own.1) left) empty in (
            sitting shape me (Post to x ∷ log) Resting,
            gives,
            tt,
            moved shape s kept ((me, Post to x) ∷ kept.run) me me to 2 (some (some (Some x)))
                (posting shape kept.run me to x (slice_index s.words (word_of shape me to)) kept.is next (λ e. absurd (never (slice_index s.words (word_of shape me to)) 1 3 fills e (omega arith))) empty)
                in_me in_to (slice_set s.homes (slot_of shape me to) (some (Some x))) (home_is s.homes (slot_of shape me to) (some (Some x)) low) id
                (sitting shape me log (Filling to)) (sitting shape me (Post to x ∷ log) Resting) there refl (λ a of. of)
                (own.0, own_log shape kept.run me (Post to x) ∙ ap (λ l. Post to x ∷ l) own.1, tt),
            (
              refl,
              in_run shape ((me, Post to x) ∷ kept.run) (kept.is, next) me (Post to x ∷ log)
                  (own_log shape kept.run me (Post to x) ∙ ap (λ l. Post to x ∷ l) own.1),
            ),
          )

      pub publishes : Allows (Kept shape) slots id (filling shape me log to (Some x)) (word_of shape me to) (λ n. either (eqb n 1) 2 n)
          (Publishes publish_step (filling shape me log to (Some x)))
      publishes s kept long there small =
          exchanged (slice_index s.words (word_of shape me to)) 1 2
          (Outcome s (word_of shape me to) ((slot_of shape me to, Some x) ∷ []) (Publishes publish_step (filling shape me log to (Some x))))
          (λ fills. publish_hit s kept there fills)
          (λ other. absurd (other (kept.stand id (sitting shape me log (Filling to)) there).2.1))

  -- ---- fetch

  module _ (from : Actor) (in_from : IsActor shape from) where
    module _ (may : MayTake shape me log from) where
      abbrev fetch_step : TableStep (Option Envelope)
      fetch_step = step slots (word_of shape from me) 2 3 none

      unfoldable pub fetch_hit : (s : Table) → (kept : Kept shape s) → get_elem? s.views id ≡ some (sitting shape me log Resting) → slice_index s.words (word_of shape from me) ≡ 2
          → Outcome s (word_of shape from me) [] (Fetches fetch_step (resting shape me log)) 3
      fetch_hit s kept there full =
          let own = kept.stand id (sitting shape me log Resting) there in
          let box = subst (λ w. Agrees w (posted_to me (log_of kept.run from)) (taken_from from (log_of kept.run me)) (get_elem? s.homes (slot_of shape from me)))
          full (kept.boxes from me in_from in_me) in
          let low : slot_of shape from me < length s.homes = subst (λ n. slot_of shape from me < n) (sym kept.deep) (slot_below shape from me in_from in_me) in
          let low_word : word_of shape from me < length s.words = subst (λ n. word_of shape from me < n) (sym kept.wide) (word_below shape from me in_from in_me) in
          let next = take_next shape kept.allowed kept.run kept.is me from box.0 in_me in_from
          (subst (λ l. KeepsOwn shape me l (Take from box.0)) (sym own.1) (may box.0)) box.1 in
          let within = held_within shape kept.run kept.is me from box.0 box.1 in (
            sitting shape me (Take from box.0 ∷ log) (Emptying from),
            takes (slot_of shape from me) (Some box.0),
            box.2,
            moved shape s kept ((me, Take from box.0) ∷ kept.run) me from me 3 (some none)
                (taking shape kept.run me from box.0 (slice_index s.words (word_of shape from me)) (some none) kept.is next (λ e. absurd (never (slice_index s.words (word_of shape from me)) 2 1 full e (omega arith))) box.1)
                in_from in_me (slice_set s.homes (slot_of shape from me) none) (home_is s.homes (slot_of shape from me) none low) id
                (sitting shape me log Resting) (sitting shape me (Take from box.0 ∷ log) (Emptying from)) there refl (λ a of. of) (
                  own.0,
                  own_log shape kept.run me (Take from box.0) ∙ ap (λ l. Take from box.0 ∷ l) own.1,
                  (in_from, get_or-set_same s.words (word_of shape from me) 3 0 low_word),
                ),
            λ other in_other same.
                let one = one_word shape from me other me in_from in_me in_other in_me same in (
                  (λ e. (
                    box.0,
                    within,
                    (λ i. emptying shape me (Take (one.0 i) box.0 ∷ log) (one.0 i) (Some box.0)),
                    in_run shape ((me, Take from box.0) ∷ kept.run) (kept.is, next) me (Take from box.0 ∷ log)
                        (own_log shape kept.run me (Take from box.0) ∙ ap (λ l. Take from box.0 ∷ l) own.1),
                  )),
                  λ ne. absurd (ne full),
                ),
          )

      fetch_miss : (s : Table) → (kept : Kept shape s) → get_elem? s.views id ≡ some (sitting shape me log Resting) → slice_index s.words (word_of shape from me) ≢ 2
          → Outcome s (word_of shape from me) [] (Fetches fetch_step (resting shape me log)) (slice_index s.words (word_of shape from me))
      fetch_miss s kept there other = (
        sitting shape me log Resting,
        keeps,
        tt,
        unmoved shape s (word_of shape from me) id (sitting shape me log Resting) there kept,
        λ another in_another same. ((λ e. absurd (other e)), λ ne. refl),
      )

      pub fetches : Allows (Kept shape) slots id (resting shape me log) (word_of shape from me) (λ n. either (eqb n 2) 3 n) (Fetches fetch_step (resting shape me log))
      fetches s kept long there small =
          exchanged (slice_index s.words (word_of shape from me)) 2 3 (Outcome s (word_of shape from me) [] (Fetches fetch_step (resting shape me log)))
          (λ full. fetch_hit s kept there full) (λ other. fetch_miss s kept there other)

    -- ---- release

    abbrev release_step : TableStep (Option Envelope)
    release_step = step slots (word_of shape from me) 3 0 none

    unfoldable pub release_hit : (s : Table) → (kept : Kept shape s) → get_elem? s.views id ≡ some (sitting shape me log (Emptying from))
        → slice_index s.words (word_of shape from me) ≡ 3
        → Outcome s (word_of shape from me) ((slot_of shape from me, None) ∷ []) (Releases release_step (emptying shape me log from None)) 0
    release_hit s kept there empties =
        let own = kept.stand id (sitting shape me log (Emptying from)) there in
        let same = subst (λ w. Agrees w (posted_to me (log_of kept.run from)) (taken_from from (log_of kept.run me)) (get_elem? s.homes (slot_of shape from me)))
        empties (kept.boxes from me in_from in_me) in
        let low : slot_of shape from me < length s.homes = subst (λ n. slot_of shape from me < n) (sym kept.deep) (slot_below shape from me in_from in_me) in (
          sitting shape me log Resting,
          gives,
          tt,
          moved shape s kept kept.run me from me 0 (some (some None))
              (silent shape kept.run me from me (slice_index s.words (word_of shape from me)) 0 (some (some None)) kept.is
              (λ e. absurd (never (slice_index s.words (word_of shape from me)) 3 1 empties e (omega arith))) (λ e. refl) (same, refl))
              in_from in_me (slice_set s.homes (slot_of shape from me) (some None)) (home_is s.homes (slot_of shape from me) (some None) low) id
              (sitting shape me log (Emptying from)) (sitting shape me log Resting) there refl (λ a of. of) (own.0, own.1, tt),
          (refl, refl),
        )

    pub releases : Allows (Kept shape) slots id (emptying shape me log from None) (word_of shape from me) (λ n. either (eqb n 3) 0 n)
        (Releases release_step (emptying shape me log from None))
    releases s kept long there small =
        exchanged (slice_index s.words (word_of shape from me)) 3 0
        (Outcome s (word_of shape from me) ((slot_of shape from me, None) ∷ []) (Releases release_step (emptying shape me log from None)))
        (λ empties. release_hit s kept there empties)
        (λ other. absurd (other (kept.stand id (sitting shape me log (Emptying from)) there).2.1))

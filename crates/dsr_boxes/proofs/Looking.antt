-- Moments: looks that change nothing but what a view knows of the past.
use Rattle.std.proofs.Common.{◌≡◌, ℕ, List, [], ◌∷◌, ◌++◌, length, inl, inr, refl, ap, sym, ◌∙◌, subst, arith, if◌then◌else◌}
use Rattle.std.specs.Prelude.{slice_index, slice_set}
use mathlib.Core.Option.{none, some}
use lib.ListN.{get_elem?}
use Rattle.atomic_table.specs.Table.{step, Allows, Splits, Joins, Enters, keeps}
use Rattle.atomic_table.proofs.Lists.{at_set}
use Rattle.dsr_base.specs.Growth.{Extends}
use Rattle.dsr_names.proofs.PlaceLemmas.{place_below}
use Rattle.dsr_names.specs.Places.{size}
use Rattle.dsr_names.specs.Shape.{Shape}
use Rattle.dsr_names.specs.declared.actor.Actor.{Actor}
use Rattle.dsr_envelope.specs.declared.entry.Entry.{Entry}
use Rattle.dsr_run.specs.Step.{Step, log_of}
use Rattle.dsr_run.proofs.Lemmas.{logs_grew}
use Rattle.dsr_boxes.specs.declared.view.Doing.TheVariants.{Resting, Recalling}
use Rattle.dsr_boxes.specs.declared.view.Part.TheVariants.{Keeping, Watching}
use Rattle.dsr_boxes.specs.declared.view.View.{View}
use Rattle.dsr_envelope.specs.Log.{posted_to, taken_from}
use Rattle.dsr_boxes.specs.Box.{IsBox}
use Rattle.dsr_boxes.specs.Pass.{logs_in}
use Rattle.dsr_boxes.specs.Place.{word_of}
use Rattle.dsr_boxes.proofs.Plainly.{box_plainly}
use Rattle.dsr_boxes.specs.Play.{Looks, Remembers, Compares, Meets, LearnsAll, forgetful, moment_alone, as_it_is, reminded, with_moment, spent}
use Rattle.dsr_boxes.specs.Rule.{Table, IsOf, HasLogs, Stands, Kept, log_at, first_view}
use Rattle.dsr_boxes.specs.View.{Holding, sitting, keeping, watching, moment_in, resting, recalling, looking_back}
use Rattle.dsr_boxes.proofs.BoxSteps.{set_same}
use Rattle.dsr_boxes.proofs.Parts.{at_end, Owner, reviewed, old_apart, is_actor_cases, outside_empty}

-- another view with the number of an old one, which represents no actors but those of the old one
abbrev pub reviewed_at : (shape : Shape) (table : Table) (kept : Kept shape table) (id : ℕ) (v w : View) → get_elem? table.views id ≡ some v
    → ((a : Actor) → IsOf shape w.part a → IsOf shape v.part a) → Stands shape table.words kept.run w.part
    → Kept shape (record { words = table.words; homes = table.homes; views = slice_set table.views id w })
reviewed_at shape table kept id v w there same stand = reviewed shape table kept (slice_set table.views id w) stands apart
  where
    stands : (i : ℕ) (u : View) → get_elem? (slice_set table.views id w) i ≡ some u → Stands shape table.words kept.run u.part
    stands i u e = elim (at_set table.views id i w u e) [
      | inl own ↦ subst (λ x. Stands shape table.words kept.run x.part) own.1 stand
      | inr other ↦ kept.stand i u other.1
    ]

    was : (i : ℕ) (a : Actor) → Owner shape (slice_set table.views id w) i a → Owner shape table.views i a
    was i a owner = elim (at_set table.views id i w owner.view owner.there) [
      | inl own ↦ record {
        view = v;
        there = subst (λ k. get_elem? table.views k ≡ some v) (sym own.0) there;
        own = same a (subst (λ x. IsOf shape x.part a) (sym own.1) owner.own);
      }
      | inr other ↦ record { view = owner.view; there = other.1; own = owner.own }
    ]

    apart : (i j : ℕ) (a : Actor) → Owner shape (slice_set table.views id w) i a → Owner shape (slice_set table.views id w) j a → i ≡ j
    apart i j a one two = old_apart shape table kept i j a (was i a one) (was j a two)

-- a new view, which represents nobody
abbrev pub added : (shape : Shape) (table : Table) (kept : Kept shape table) (w : View) → ((a : Actor) → ¬ IsOf shape w.part a)
    → Stands shape table.words kept.run w.part → Kept shape (record { words = table.words; homes = table.homes; views = table.views ++ w ∷ [] })
added shape table kept w nobody stand = reviewed shape table kept (table.views ++ w ∷ []) stands apart
  where
    stands : (i : ℕ) (u : View) → get_elem? (table.views ++ w ∷ []) i ≡ some u → Stands shape table.words kept.run u.part
    stands i u e = elim (at_end table.views w u i e) [
      | inl old ↦ kept.stand i u old
      | inr new ↦ subst (λ x. Stands shape table.words kept.run x.part) new.1 stand
    ]

    was : (i : ℕ) (a : Actor) → Owner shape (table.views ++ w ∷ []) i a → Owner shape table.views i a
    was i a owner = elim (at_end table.views w owner.view i owner.there) [
      | inl old ↦ record { view = owner.view; there = old; own = owner.own }
      | inr new ↦ absurd (nobody a (subst (λ x. IsOf shape x.part a) (sym new.1) owner.own))
    ]

    apart : (i j : ℕ) (a : Actor) → Owner shape (table.views ++ w ∷ []) i a → Owner shape (table.views ++ w ∷ []) j a → i ≡ j
    apart i j a one two = old_apart shape table kept i j a (was i a one) (was j a two)

-- a look, at which the own view changes
pub looked : (shape : Shape) (table : Table) (kept : Kept shape table) (i id : ℕ) (v w : View) → get_elem? table.views id ≡ some v
    → ((a : Actor) → IsOf shape w.part a → IsOf shape v.part a) → Stands shape table.words kept.run w.part
    → Kept shape (record { words = slice_set table.words i (slice_index table.words i); homes = table.homes; views = slice_set table.views id w })
looked shape table kept i id v w there same stand =
    subst (λ ws. Kept shape (record { words = ws; homes = table.homes; views = slice_set table.views id w })) (sym (set_same table.words i))
    (reviewed_at shape table kept id v w there same stand)

-- a view without logs represents nobody
nobody : (shape : Shape) (a : Actor) (moments : List (List Step)) → ¬ IsOf shape (Watching [] moments) a
nobody shape a moments of = let low = of.1 in omega (arith, low)

spent_nobody : (shape : Shape) (a : Actor) → ¬ IsOf shape (Keeping []) a
spent_nobody shape a of = let low = of.1 in omega (arith, low)

no_logs_kept : (shape : Shape) (run : List Step) → HasLogs shape run []
no_logs_kept shape run a inside low = absurd (omega (arith, low))

same_run : {A : Type 0} (run : List A) → Extends run run
same_run run = ([], refl)

-- ---- a new moment

pub looks : (shape : Shape) (slots word : ℕ) → Enters (Kept shape) slots word (λ n w. Looks (step slots word 0 0 none) (first_view shape, []) n (w, []))
looks shape slots word table kept long small = (
  watching shape [] (kept.run ∷ []),
  added shape table kept (watching shape [] (kept.run ∷ [])) (λ a. nobody shape a (kept.run ∷ []))
      (no_logs_kept shape kept.run, (same_run kept.run, tt)),
  (
    kept.run,
    kept.is,
    (λ from to in_from in_to at.
        subst (λ i. IsBox (slice_index table.words i) (posted_to to (log_of kept.run from)) (taken_from from (log_of kept.run to))) (sym at)
        (box_plainly (slice_index table.words (word_of shape from to)) (posted_to to (log_of kept.run from)) (taken_from from (log_of kept.run to)) _
        (kept.boxes from to in_from in_to))),
    refl,
  ),
)

-- ---- an actor's moment

module _ (shape : Shape) (slots id word : ℕ) (me : Actor) (log : List Entry) where
  pub remembers : Allows (Kept shape) slots id (resting shape me log) word (λ n. n) (Remembers (step slots word 0 0 none) (resting shape me log))
  remembers table kept long there small =
      let own = kept.stand id (sitting shape me log Resting) there in (
        sitting shape me log (Recalling kept.run),
        keeps,
        tt,
        looked shape table kept word id (sitting shape me log Resting) (sitting shape me log (Recalling kept.run)) there (λ a of. of)
            (own.0, own.1, same_run kept.run),
        (kept.run, kept.is, own.1, refl),
      )

  module _ (past : List Step) where
    pub compares : Allows (Kept shape) slots id (recalling shape me log past) word (λ n. n) (Compares (step slots word 0 0 none) (recalling shape me log past))
    compares table kept long there small =
        let own = kept.stand id (sitting shape me log (Recalling past)) there in (
          sitting shape me log Resting,
          keeps,
          tt,
          looked shape table kept word id (sitting shape me log (Recalling past)) (sitting shape me log Resting) there (λ a of. of)
              (own.0, own.1, tt),
          (refl, subst (λ l. Extends l (log_of past me)) own.1 (logs_grew kept.run past own.2 me)),
        )

    pub shows : Splits (Kept shape) id (sitting shape me log (Recalling past)) (sitting shape me log Resting) (watching shape [] (past ∷ []))
    shows table kept there =
        let own = kept.stand id (sitting shape me log (Recalling past)) there in
        added shape (record { words = table.words; homes = table.homes; views = slice_set table.views id (sitting shape me log Resting) })
        (reviewed_at shape table kept id (sitting shape me log (Recalling past)) (sitting shape me log Resting) there (λ a of. of) (own.0, own.1, tt))
        (watching shape [] (past ∷ [])) (λ a. nobody shape a (past ∷ [])) (no_logs_kept shape kept.run, (own.2, tt))

-- ---- what is shown a moment

-- the second view is spent, and the first knows what it knew
module _ (shape : Shape) (id other : ℕ) (v w both : View) (same : (a : Actor) → IsOf shape both.part a → IsOf shape v.part a)
    (stand : (words : List ℕ) (run : List Step) → Stands shape words run v.part → Stands shape words run w.part → Stands shape words run both.part) where
  pub shown : Joins (Kept shape) id v other w both spent
  shown table kept there apart here_now =
      let own_there : get_elem? table.views other ≡ some w = elim (at_set table.views id other both w here_now) [
        | inl one ↦ absurd (apart one.0)
        | inr old ↦ old.1
      ] in
      reviewed_at shape (record { words = table.words; homes = table.homes; views = slice_set table.views id both })
      (reviewed_at shape table kept id v both there same (stand table.words kept.run (kept.stand id v there) (kept.stand other w own_there)))
      other w spent here_now (λ a of. absurd (spent_nobody_of a of)) (no_logs_kept_of table kept)
    where
      spent_nobody_of : (a : Actor) → ¬ IsOf shape (Keeping []) a
      spent_nobody_of a of = spent_nobody shape a of

      no_logs_kept_of : (table : Table) (kept : Kept shape table) → HasLogs shape kept.run []
      no_logs_kept_of table kept = no_logs_kept shape kept.run

pub recalls : (shape : Shape) (id other : ℕ) (me : Actor) (log : List Entry) (past : List Step)
    → Joins (Kept shape) id (sitting shape me log Resting) other (watching shape [] (past ∷ [])) (sitting shape me log (Recalling past)) spent
recalls shape id other me log past =
    shown shape id other (sitting shape me log Resting) (watching shape [] (past ∷ [])) (sitting shape me log (Recalling past)) (λ a of. of)
    (λ words run own shown. (own.0, own.1, shown.1.0))

pub reminds : (shape : Shape) (id other : ℕ) (known past : List Step)
    → Joins (Kept shape) id (watching shape [] (known ∷ [])) other (watching shape [] (past ∷ [])) (watching shape [] (past ∷ known ∷ [])) spent
reminds shape id other known past =
    shown shape id other (watching shape [] (known ∷ [])) (watching shape [] (past ∷ [])) (watching shape [] (past ∷ known ∷ [])) (λ a of. of)
    (λ words run own shown. (own.0, (shown.1.0, own.1)))

pub reminds_all : (shape : Shape) (id other : ℕ) (logs : List (List Entry)) (past : List Step)
    → Joins (Kept shape) id (keeping shape logs) other (watching shape [] (past ∷ [])) (watching shape logs (past ∷ [])) spent
reminds_all shape id other logs past =
    shown shape id other (keeping shape logs) (watching shape [] (past ∷ [])) (watching shape logs (past ∷ [])) (λ a of. of)
    (λ words run own shown. (own, shown.1))

-- ---- moments

pub copies : (shape : Shape) (id : ℕ) (past : List Step) → Splits (Kept shape) id (watching shape [] (past ∷ [])) (watching shape [] (past ∷ [])) (watching shape [] (past ∷ []))
copies shape id past table kept there =
    let own = kept.stand id (watching shape [] (past ∷ [])) there in
    added shape (record { words = table.words; homes = table.homes; views = slice_set table.views id (watching shape [] (past ∷ [])) })
    (reviewed_at shape table kept id (watching shape [] (past ∷ [])) (watching shape [] (past ∷ [])) there (λ a of. of) own)
    (watching shape [] (past ∷ [])) (λ a. nobody shape a (past ∷ [])) own

pub meets : (shape : Shape) (slots id word : ℕ) (moments : List (List Step))
    → Allows (Kept shape) slots id (watching shape [] moments, []) word (λ n. n) (Meets (step slots word 0 0 none) (watching shape [] moments, []))
meets shape slots id word moments table kept long there small =
    let own = kept.stand id (watching shape [] moments) there in (
      watching shape [] (kept.run ∷ []),
      keeps,
      tt,
      looked shape table kept word id (watching shape [] moments) (watching shape [] (kept.run ∷ [])) there (λ a of. of)
          (no_logs_kept shape kept.run, (same_run kept.run, tt)),
      (kept.run, kept.is, own.1, refl),
    )

-- ---- all logs, after a moment

pub learns_all : (shape : Shape) (slots id word : ℕ) (logs : List (List Entry)) (past : List Step)
    → Allows (Kept shape) slots id (watching shape logs (past ∷ []), []) word (λ n. n) (LearnsAll (step slots word 0 0 none) (watching shape logs (past ∷ []), []))
learns_all shape slots id word logs past table kept long there small =
    let own = kept.stand id (watching shape logs (past ∷ [])) there in (
      watching shape logs (past ∷ []),
      keeps,
      tt,
      looked shape table kept word id (watching shape logs (past ∷ [])) (watching shape logs (past ∷ [])) there (λ a of. of) own,
      λ all. record { run = kept.run; is = kept.is; grown = own.1.0; each = each_is own.0 all },
    )
  where
    each_is : HasLogs shape kept.run logs → length logs ≡ size shape → (a : Actor) → log_of kept.run a ≡ logs_in shape logs a
    each_is has all a = elim (is_actor_cases shape a) [
      | inl inside ↦
          has a inside.0 (let low = place_below shape a inside.0 in omega (arith, low, all))
          ∙ sym (ap (λ b. if b then log_at shape logs a else []) inside.1)
      | inr outside ↦
          outside_empty shape kept.run kept.is a outside.0
          ∙ sym (ap (λ b. if b then log_at shape logs a else []) outside.1)
    ]

-- ---- as calls ask for them

module _ (shape key : Shape) (slots id word : ℕ) (same : shape ≡ key) where
  pub remembers_as : (me : Actor) (log : List Entry) (m : Holding) → m ≡ resting shape me log
      → Allows (Kept key) slots id m word (λ n. n) (Remembers (step slots word 0 0 none) m)
  remembers_as me log m is =
      subst (λ k. Allows (Kept k) slots id m word (λ n. n) (Remembers (step slots word 0 0 none) m)) same
      (subst (λ x. Allows (Kept shape) slots id x word (λ n. n) (Remembers (step slots word 0 0 none) x)) (sym is) (remembers shape slots id word me log))

  pub compares_as : (me : Actor) (log : List Entry) (past : List Step) (m : Holding) → m ≡ recalling shape me log past
      → Allows (Kept key) slots id m word (λ n. n) (Compares (step slots word 0 0 none) m)
  compares_as me log past m is =
      subst (λ k. Allows (Kept k) slots id m word (λ n. n) (Compares (step slots word 0 0 none) m)) same
      (subst (λ x. Allows (Kept shape) slots id x word (λ n. n) (Compares (step slots word 0 0 none) x)) (sym is) (compares shape slots id word me log past))

  pub meets_as : (moments : List (List Step)) (m : Holding) → m ≡ (watching shape [] moments, [])
      → Allows (Kept key) slots id m word (λ n. n) (Meets (step slots word 0 0 none) m)
  meets_as moments m is =
      subst (λ k. Allows (Kept k) slots id m word (λ n. n) (Meets (step slots word 0 0 none) m)) same
      (subst (λ x. Allows (Kept shape) slots id x word (λ n. n) (Meets (step slots word 0 0 none) x)) (sym is) (meets shape slots id word moments))

  pub learns_all_as : (logs : List (List Entry)) (past : List Step) (m : Holding) → m ≡ (watching shape logs (past ∷ []), [])
      → Allows (Kept key) slots id m word (λ n. n) (LearnsAll (step slots word 0 0 none) m)
  learns_all_as logs past m is =
      subst (λ k. Allows (Kept k) slots id m word (λ n. n) (LearnsAll (step slots word 0 0 none) m)) same
      (subst (λ x. Allows (Kept shape) slots id x word (λ n. n) (LearnsAll (step slots word 0 0 none) x)) (sym is) (learns_all shape slots id word logs past))

module _ (shape key : Shape) (id : ℕ) (same : shape ≡ key) where
  pub shows_as : (me : Actor) (log : List Entry) (past : List Step) (v : View) → v ≡ sitting shape me log (Recalling past)
      → Splits (Kept key) id v (forgetful v) (moment_alone v)
  shows_as me log past v is =
      subst (λ k. Splits (Kept k) id v (forgetful v) (moment_alone v)) same
      (subst (λ x. Splits (Kept shape) id x (forgetful x) (moment_alone x)) (sym is) (shows shape 0 id 0 me log past))

  pub copies_as : (past : List Step) (v : View) → v ≡ watching shape [] (past ∷ []) → Splits (Kept key) id v (as_it_is v) (moment_alone v)
  copies_as past v is =
      subst (λ k. Splits (Kept k) id v (as_it_is v) (moment_alone v)) same
      (subst (λ x. Splits (Kept shape) id x (as_it_is x) (moment_alone x)) (sym is) (copies shape id past))

  pub recalls_as : (other : ℕ) (me : Actor) (log : List Entry) (past : List Step) (v w : View) → v ≡ sitting shape me log Resting → w ≡ watching shape [] (past ∷ [])
      → Joins (Kept key) id v other w (reminded v w) spent
  recalls_as other me log past v w v_is w_is =
      subst (λ k. Joins (Kept k) id v other w (reminded v w) spent) same
      (subst (λ x. Joins (Kept shape) id x other w (reminded x w) spent) (sym v_is)
      (subst (λ y. Joins (Kept shape) id (sitting shape me log Resting) other y (reminded (sitting shape me log Resting) y) spent) (sym w_is)
      (recalls shape id other me log past)))

  pub reminds_as : (other : ℕ) (known past : List Step) (v w : View) → v ≡ watching shape [] (known ∷ []) → w ≡ watching shape [] (past ∷ [])
      → Joins (Kept key) id v other w (with_moment v w) spent
  reminds_as other known past v w v_is w_is =
      subst (λ k. Joins (Kept k) id v other w (with_moment v w) spent) same
      (subst (λ x. Joins (Kept shape) id x other w (with_moment x w) spent) (sym v_is)
      (subst (λ y. Joins (Kept shape) id (watching shape [] (known ∷ [])) other y (with_moment (watching shape [] (known ∷ [])) y) spent) (sym w_is)
      (reminds shape id other known past)))

  pub reminds_all_as : (other : ℕ) (logs : List (List Entry)) (past : List Step) (v w : View) → v ≡ keeping shape logs → w ≡ watching shape [] (past ∷ [])
      → Joins (Kept key) id v other w (with_moment v w) spent
  reminds_all_as other logs past v w v_is w_is =
      subst (λ k. Joins (Kept k) id v other w (with_moment v w) spent) same
      (subst (λ x. Joins (Kept shape) id x other w (with_moment x w) spent) (sym v_is)
      (subst (λ y. Joins (Kept shape) id (keeping shape logs) other y (with_moment (keeping shape logs) y) spent) (sym w_is)
      (reminds_all shape id other logs past)))

-- a pass that is shown a moment
pub recalled : (shape : Shape) (me : Actor) (log : List Entry) (m after : Holding) (w : View) → m ≡ resting shape me log
    → after ≡ (reminded m.0 w, m.1) → after ≡ recalling shape me log (moment_in w.part)
recalled shape me log m after w is joined = joined ∙ ap (λ x. (reminded x.0 w, x.1)) is

-- a moment that is shown another
pub reminded_of : (shape : Shape) (known : List Step) (m after : Holding) (w : View) → m ≡ looking_back shape known
    → after ≡ (with_moment m.0 w, m.1) → after ≡ (watching shape [] (moment_in w.part ∷ known ∷ []), [])
reminded_of shape known m after w is joined = joined ∙ ap (λ x. (with_moment x.0 w, x.1)) is

-- all logs, shown a moment
pub all_reminded : (shape : Shape) (logs : List (List Entry)) (m after : Holding) (w : View) → m ≡ (keeping shape logs, [])
    → after ≡ (with_moment m.0 w, m.1) → after ≡ (watching shape logs (moment_in w.part ∷ []), [])
all_reminded shape logs m after w is joined = joined ∙ ap (λ x. (with_moment x.0 w, x.1)) is

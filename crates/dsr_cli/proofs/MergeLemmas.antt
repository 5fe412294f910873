-- The logs of a run are merged whole: the merge does not stop before it has all their entries.
use Rattle.std.proofs.Common.{◌≡◌, ℕ, List, [], ◌∷◌, ◌++◌, inl, inr, refl, ap, sym, ◌∙◌, subst, arith, length, length-append, append-nil, append_assoc}
use Rattle.dsr_base.specs.Growth.{Extends, IsPrefixOf}
use Rattle.dsr_names.specs.Shape.{Shape}
use Rattle.dsr_names.specs.declared.actor.Actor.{Actor}
use Rattle.dsr_names.specs.Support.ActorEquality.{actor_eq, actor_eq-Decides}
use Rattle.dsr_slot.proofs.Lemmas.{by_test}
use Rattle.dsr_envelope.specs.declared.envelope.Envelope.{Envelope}
use Rattle.dsr_envelope.specs.declared.entry.Entry.{Entry}
use Rattle.dsr_envelope.specs.declared.entry.Entry.TheVariants.{Post, Take}
use Rattle.dsr_envelope.specs.Log.{posted_to, taken_from}
use Rattle.dsr_run.specs.Run.{AreLogs, IsRun, KeepsBox}
use Rattle.dsr_run.specs.Step.{Step, Logs, log_of}
use Rattle.dsr_run.proofs.Lemmas.{IsBox, log_cases, logs_grew, posted_cases, posted_still, taken_cases, taken_still}
use Rattle.dsr_record.specs.Merge.{IsMerge, IsStuck, StopsAt}

-- ---- lists that end alike

abbrev first_of : Entry → List Entry → Entry
first_of d [] = d
first_of d (x ∷ xs) = x

abbrev rest_of : List Entry → List Entry
rest_of [] = []
rest_of (x ∷ xs) = xs

-- entries before the same end of one list are equal
same_next : (xs ys end : List Entry) (a b : Entry) → xs ++ a ∷ end ≡ ys ++ b ∷ end → a ≡ b
same_next [] [] end a b e = ap (first_of a) e
same_next [] (y ∷ ys) end a b e = let long = ap length e in absurd (omega (arith, long, length-append ys (b ∷ end)))
same_next (x ∷ xs) [] end a b e = let long = ap length e in absurd (omega (arith, long, length-append xs (a ∷ end)))
same_next (x ∷ xs) (y ∷ ys) end a b e = same_next xs ys end a b (ap rest_of e)

-- if an entry precedes an end of a list, a longer end of the list also has that entry there
has_next : (y : Entry) (ys before later end : List Entry) (entry : Entry) → before ++ ((y ∷ ys) ++ end) ≡ later ++ entry ∷ end
    → Extends ((y ∷ ys) ++ end) (entry ∷ end)
has_next y [] before later end entry e = ([], ap (λ x. x ∷ end) (same_next before later end y entry e))
has_next y (z ∷ zs) before later end entry e =
    let more = has_next z zs (before ++ y ∷ []) later end entry (append_assoc before (y ∷ []) ((z ∷ zs) ++ end) ∙ e) in
    (y ∷ more.0, ap (λ l. y ∷ l) more.1)

-- ---- boxes

-- if a log grows, the envelopes that it took from an actor stay the first part of all that it takes from that actor
taken_grows : (a : Actor) (newer log : List Entry) → IsPrefixOf (taken_from a log) (taken_from a (newer ++ log))
taken_grows a [] log = ([], sym (append-nil (taken_from a log)))
taken_grows a (Post to x ∷ newer) log = taken_grows a newer log
taken_grows a (Take from x ∷ newer) log =
    let before = taken_grows a newer log in
    elim (by_test (actor_eq from a) (actor_eq-Decides from a) (taken_from a (newer ++ log) ++ x ∷ []) (taken_from a (newer ++ log))) [
      | inl same ↦ (before.0 ++ x ∷ [], same.1 ∙ (ap (λ l. l ++ x ∷ []) before.1 ∙ append_assoc (taken_from a log) before.0 (x ∷ [])))
      | inr other ↦ (before.0, other.1 ∙ before.1)
    ]

-- the same for what was posted to an actor
posted_grows : (a : Actor) (newer log : List Entry) → IsPrefixOf (posted_to a log) (posted_to a (newer ++ log))
posted_grows a [] log = ([], sym (append-nil (posted_to a log)))
posted_grows a (Take from x ∷ newer) log = posted_grows a newer log
posted_grows a (Post to x ∷ newer) log =
    let before = posted_grows a newer log in
    elim (by_test (actor_eq to a) (actor_eq-Decides to a) (posted_to a (newer ++ log) ++ x ∷ []) (posted_to a (newer ++ log))) [
      | inl same ↦ (before.0 ++ x ∷ [], same.1 ∙ (ap (λ l. l ++ x ∷ []) before.1 ∙ append_assoc (posted_to a log) before.0 (x ∷ [])))
      | inr other ↦ (before.0, other.1 ∙ before.1)
    ]

-- each step respects its box
abbrev KeepBoxes : List Step → Type 0
KeepBoxes [] = Unit {0}
KeepBoxes ((actor, entry) ∷ older) = KeepBoxes older × KeepsBox (log_of older) actor entry

-- each merged step respects its box
merged_keep : (shape : Shape) (logs : Logs) (merged : List Step) → IsMerge shape logs merged → KeepBoxes merged
merged_keep shape logs [] merge = tt
merged_keep shape logs ((actor, entry) ∷ older) merge =
    let can = merge.1.can in
    let same : can.entry ≡ entry =
    same_next can.next.0 merge.2.0 (log_of older actor) can.entry entry (sym can.next.1 ∙ merge.2.1) in
    (merged_keep shape logs older merge.0, subst (KeepsBox (log_of older) actor) same can.box)

same_box : (posted taken posted_then taken_then : List Envelope) → posted ≡ posted_then → taken ≡ taken_then → IsBox posted_then taken_then
    → IsBox posted taken
same_box posted taken posted_then taken_then e f (inl empty) = inl (e ∙ (empty ∙ sym f))
same_box posted taken posted_then taken_then e f (inr full) = inr (full.0, e ∙ (full.1 ∙ ap (λ xs. xs ++ full.0 ∷ []) (sym f)))

-- if each step respects its box, each box is empty or holds one envelope
kept_boxes : (steps : List Step) → KeepBoxes steps → (a b : Actor) → IsBox (posted_to b (log_of steps a)) (taken_from a (log_of steps b))
kept_boxes [] keep a b = inl refl
kept_boxes ((actor, Post to x) ∷ older) keep a b =
    let still = taken_still actor to x older a b in
    elim (posted_cases actor to x older a b) [
      | inl new ↦
          let box : posted_to b (log_of older a) ≡ taken_from a (log_of older b) =
          subst (λ z. posted_to b (log_of older z) ≡ taken_from z (log_of older b)) new.0
          (subst (λ z. posted_to z (log_of older actor) ≡ taken_from actor (log_of older z)) new.1 keep.1) in
          inr (x, new.2 ∙ ap (λ xs. xs ++ x ∷ []) (box ∙ sym still))
      | inr same ↦
          same_box (posted_to b (log_of ((actor, Post to x) ∷ older) a)) (taken_from a (log_of ((actor, Post to x) ∷ older) b))
          (posted_to b (log_of older a)) (taken_from a (log_of older b)) same still (kept_boxes older keep.0 a b)
    ]
kept_boxes ((actor, Take from x) ∷ older) keep a b =
    let still = posted_still actor from x older a b in
    elim (taken_cases actor from x older a b) [
      | inl new ↦
          let box : posted_to b (log_of older a) ≡ taken_from a (log_of older b) ++ x ∷ [] =
          subst (λ z. posted_to z (log_of older a) ≡ taken_from a (log_of older z) ++ x ∷ []) new.0
          (subst (λ z. posted_to actor (log_of older z) ≡ taken_from z (log_of older actor) ++ x ∷ []) new.1 keep.1) in
          inl (still ∙ (box ∙ sym new.2))
      | inr same ↦
          same_box (posted_to b (log_of ((actor, Take from x) ∷ older) a)) (taken_from a (log_of ((actor, Take from x) ∷ older) b))
          (posted_to b (log_of older a)) (taken_from a (log_of older b)) still same (kept_boxes older keep.0 a b)
    ]

-- ---- the merge

extends_twice : (one other last : List Entry) → Extends one other → Extends other last → Extends one last
extends_twice one other last first second =
    (first.0 ++ second.0, first.1 ∙ (ap (λ l. first.0 ++ l) second.1 ∙ sym (append_assoc first.0 second.0 last)))

-- the merged entries of a log are its first part
merged_part : (shape : Shape) (logs : Logs) (merged : List Step) → IsMerge shape logs merged → (a : Actor) → Extends (logs a) (log_of merged a)
merged_part shape logs [] merge a = (logs a, sym (append-nil (logs a)))
merged_part shape logs ((actor, entry) ∷ older) merge a = elim (log_cases (actor, entry) older a) [
  | inl own ↦
      subst (Extends (logs a)) (sym own.1) (subst (λ z. Extends (logs z) (entry ∷ log_of older z)) own.0 (merge.2.0, merge.2.1))
  | inr other ↦ subst (Extends (logs a)) (sym other.1) (merged_part shape logs older merge.0 a)
]

-- if all that was posted to a box was taken, later takes from it take nothing more
post_box : (posted taken taken_later : List Envelope) → posted ≡ taken → IsPrefixOf taken taken_later → IsBox posted taken_later → posted ≡ taken_later
post_box posted taken taken_later empty grown (inl same) = same
post_box posted taken taken_later empty grown (inr full) =
    let long = ap length (sym empty ∙ full.1) in
    let grew = ap length grown.1 in
    absurd (omega (arith, long, grew, length-append taken grown.0, length-append taken_later (full.0 ∷ [])))

take_box : (posted posted_later taken : List Envelope) (x : Envelope) → posted ≡ taken ++ x ∷ [] → IsPrefixOf posted posted_later → IsBox posted_later taken
    → posted_later ≡ taken ++ x ∷ []
take_box posted posted_later taken x full ([], same) box = same ∙ (append-nil posted ∙ full)
take_box posted posted_later taken x full (y ∷ more, grown) (inl same) =
    let long = ap length (sym grown ∙ same) in
    let old = ap length full in
    absurd (omega (arith, long, old, length-append posted (y ∷ more), length-append taken (x ∷ [])))
take_box posted posted_later taken x full (y ∷ more, grown) (inr other) =
    let long = ap length (sym grown ∙ other.1) in
    let old = ap length full in
    absurd (omega (arith, long, old, length-append posted (y ∷ more), length-append taken (x ∷ []), length-append taken (other.0 ∷ [])))

module _ (shape : Shape) (logs : Logs) (merged : List Step) (merge : IsMerge shape logs merged) (stuck : IsStuck shape logs merged) where
  -- an entry that respected its box in a part of what is merged still respects it unless its actor made a step since
  still_kept : (actor : Actor) (entry : Entry) (older : List Step) → KeepsBox (log_of older) actor entry
      → ((a : Actor) → Extends (log_of merged a) (log_of older a)) → log_of merged actor ≡ log_of older actor → KeepsBox (log_of merged) actor entry
  still_kept actor (Post to x) older kept before same =
      post_box (posted_to to (log_of merged actor)) (taken_from actor (log_of older to)) (taken_from actor (log_of merged to))
      (ap (posted_to to) same ∙ kept)
      (subst (λ l. IsPrefixOf (taken_from actor (log_of older to)) (taken_from actor l)) (sym (before to).1) (taken_grows actor (before to).0 (log_of older to)))
      (kept_boxes merged (merged_keep shape logs merged merge) actor to)
  still_kept actor (Take from x) older kept before same =
      take_box (posted_to actor (log_of older from)) (posted_to actor (log_of merged from)) (taken_from from (log_of merged actor)) x
      (kept ∙ ap (λ l. taken_from from l ++ x ∷ []) (sym same))
      (subst (λ l. IsPrefixOf (posted_to actor (log_of older from)) (posted_to actor l)) (sym (before from).1) (posted_grows actor (before from).0 (log_of older from)))
      (kept_boxes merged (merged_keep shape logs merged merge) from actor)

  -- the next entry of a run whose earlier ones are merged is merged too
  one_more : (actor : Actor) (entry : Entry) (older : List Step) → IsRun shape ((actor, entry) ∷ older)
      → ((a : Actor) → Extends (log_of merged a) (log_of older a)) → Extends (logs actor) (entry ∷ log_of older actor)
      → Extends (log_of merged actor) (entry ∷ log_of older actor)
  one_more actor entry older is before part = by_newer (before actor).0 (before actor).1
    where
      by_newer : (newer : List Entry) → log_of merged actor ≡ newer ++ log_of older actor → Extends (log_of merged actor) (entry ∷ log_of older actor)
      by_newer [] same = absurd (stuck actor is.1.actor (record {
        entry = entry;
        next = (part.0, part.1 ∙ ap (λ l. part.0 ++ entry ∷ l) (sym same));
        box = still_kept actor entry older is.1.box before same;
      }))
      by_newer (y ∷ ys) more =
          let all = merged_part shape logs merged merge actor in
          subst (λ l. Extends l (entry ∷ log_of older actor)) (sym more)
          (has_next y ys all.0 part.0 (log_of older actor) entry (sym (all.1 ∙ ap (λ l. all.0 ++ l) more) ∙ part.1))

  -- all of a run of these logs is merged
  all_merged : (run : List Step) → IsRun shape run → ((a : Actor) → Extends (logs a) (log_of run a))
      → (a : Actor) → Extends (log_of merged a) (log_of run a)
  all_merged [] is part a = (log_of merged a, sym (append-nil (log_of merged a)))
  all_merged ((actor, entry) ∷ older) is part a =
      let earlier : (b : Actor) → Extends (logs b) (log_of older b) =
      λ b. extends_twice (logs b) (log_of ((actor, entry) ∷ older) b) (log_of older b) (part b)
      (logs_grew ((actor, entry) ∷ older) older ((actor, entry) ∷ [], refl) b) in
      let before = all_merged older is.0 earlier in
      elim (log_cases (actor, entry) older a) [
        | inl own ↦
            subst (Extends (log_of merged a)) (sym own.1)
            (subst (λ z. Extends (log_of merged z) (entry ∷ log_of older z)) own.0
            (one_more actor entry older is before
            (subst (λ z. Extends (logs z) (entry ∷ log_of older z)) (sym own.0) (subst (Extends (logs a)) own.1 (part a)))))
        | inr other ↦ subst (Extends (log_of merged a)) (sym other.1) (before a)
      ]

-- the merge of the logs of a run does not stop before it has all of their entries
pub never_stops : (shape : Shape) (logs : Logs) (line : ℕ) → AreLogs shape logs → StopsAt shape logs line → ⊥
never_stops shape logs line are stops =
    let whole = all_merged shape logs stops.merged stops.merge stops.stuck are.run are.is (λ a. ([], sym (are.each a))) stops.actor in
    let long = ap length whole.1 in
    let all = ap length (are.each stops.actor ∙ stops.next.1) in
    absurd (omega (
      arith,
      long,
      all,
      length-append whole.0 (log_of are.run stops.actor),
      length-append stops.next.0 (stops.entry ∷ log_of stops.merged stops.actor),
    ))

-- The token of all is parted into passes, passes come back and are joined, and the joined one learns that all logs are those of a run.
use Rattle.std.proofs.Common.{◌≡◌, ◌≢◌, ℕ, zero, suc, ◌+◌, ◌*◌, ◌<◌, ◌-◌, Bool, true, false, List, [], ◌∷◌, ◌++◌, length, map, ◌⊎◌, inl, inr, refl, ap, sym, ◌∙◌, subst, arith, if◌then◌else◌}
use Rattle.std.specs.Prelude.{Option, None, replicate, nat_lt, slice_index, slice_set}
use Rattle.std.proofs.lemmas.List.{length-set, length-replicate, get_or-replicate}
use Rattle.std.proofs.lemmas.Bool.Decides.{nat_tests}
use mathlib.Core.Option.{none, some, some-injective, some-ne-none}
use lib.ListN.{get_elem?}
use Rattle.atomic_table.specs.Table.{step, Allows, Splits, Joins, Enters, opening, keeps}
use Rattle.atomic_table.proofs.Lists.{at_set}
use Rattle.dsr_base.specs.Member.{In, here}
use Rattle.dsr_names.proofs.PlaceLemmas.{place_below, same_place, place_of_actor}
use Rattle.dsr_names.specs.Places.{size, place_of, actor_at}
use Rattle.dsr_names.specs.Shape.{Shape, IsAllowed, IsActor}
use Rattle.dsr_names.specs.declared.actor.Actor.{Actor}
use Rattle.dsr_names.specs.declared.actor.Actor.TheVariants.{Replica, Client}
use Rattle.dsr_envelope.specs.declared.envelope.Envelope.{Envelope}
use Rattle.dsr_envelope.specs.declared.entry.Entry.{Entry}
use Rattle.dsr_node.specs.Conduct.{is_actor}
use Rattle.dsr_run.specs.Run.{IsRun, AreLogs}
use Rattle.dsr_run.specs.Step.{Step, log_of}
use Rattle.dsr_run.proofs.Lemmas.{actors_within, no_logs}
use Rattle.dsr_boxes.specs.declared.view.Doing.TheVariants.{Resting}
use Rattle.dsr_boxes.specs.declared.view.Part.TheVariants.{Keeping, Sitting}
use Rattle.dsr_boxes.specs.declared.view.View.{View}
use Rattle.dsr_boxes.specs.Moves.{GoesOn}
use Rattle.dsr_boxes.specs.Pass.{IsInRun, logs_in}
use Rattle.dsr_boxes.specs.Place.{slot_of, word_of}
use Rattle.dsr_boxes.specs.Play.{Learns, Enters as EntersAs, without_last, last_alone, with_next, spent}
use Rattle.dsr_boxes.specs.Rule.{Table, IsOf, Stands, Agrees, Kept, log_at, first_view}
use Rattle.dsr_boxes.specs.View.{Holding, sitting, keeping, resting, log_in}
use Rattle.dsr_boxes.proofs.BoxSteps.{unmoved}
use Rattle.dsr_boxes.proofs.Numbers.{slot_below, log_last, log_lower, log_blank}

-- ---- places and lists

-- a place below the next is the last one, or below it
below_next : (p n : ℕ) → p < suc n → (p ≡ n) ⊎ (p < n)
below_next zero zero low = inl refl
below_next zero (suc n) low = inr (omega arith)
below_next (suc p) zero low = absurd (omega (arith, low))
below_next (suc p) (suc n) low = elim (below_next p n (omega (arith, low))) [
  | inl e ↦ inl (ap suc e)
  | inr less ↦ inr (omega (arith, less))
]

-- the actor at a place is one of the shape
actor_inside : (shape : Shape) (place : ℕ) → place < size shape → IsActor shape (actor_at shape place)
actor_inside shape place low = by_test (nat_lt place shape.n) refl
  where
    by_test : (b : Bool) → nat_lt place shape.n ≡ b → IsActor shape (if b then Replica place else Client (place - shape.n))
    by_test true e = grind (arith, nat_tests)
    by_test false e = grind (arith, nat_tests)

-- the last of a longer list, or one of the list
pub at_end : {A : Type 0} (l : List A) (a b : A) (j : ℕ) → get_elem? (l ++ a ∷ []) j ≡ some b → (get_elem? l j ≡ some b) ⊎ ((j ≡ length l) × (a ≡ b))
at_end [] a b zero e = inr (refl, some-injective a b e)
at_end [] a b (suc j) e = absurd (some-ne-none b (sym e))
at_end (x ∷ xs) a b zero e = inl e
at_end (x ∷ xs) a b (suc j) e = elim (at_end xs a b j e) [
  | inl old ↦ inl old
  | inr new ↦ inr (ap suc new.0, new.1)
]

-- a number of a list is below its length
at_below : {A : Type 0} (l : List A) (a : A) (j : ℕ) → get_elem? l j ≡ some a → j < length l
at_below [] a j e = absurd (some-ne-none a (sym e))
at_below (x ∷ xs) a zero e = omega arith
at_below (x ∷ xs) a (suc j) e = let low = at_below xs a j e in omega (arith, low)

-- the view with this number represents the actor
pub record Owner (shape : Shape) (views : List View) (i : ℕ) (a : Actor) : Type 0 where
  pub view : View
  pub there : get_elem? views i ≡ some view
  pub own : IsOf shape view.part a

-- other views, in which each actor still has one owner
abbrev pub reviewed : (shape : Shape) (table : Table) (kept : Kept shape table) (views : List View)
    → ((i : ℕ) (v : View) → get_elem? views i ≡ some v → Stands shape table.words kept.run v.part)
    → ((i j : ℕ) (a : Actor) → Owner shape views i a → Owner shape views j a → i ≡ j)
    → Kept shape (record { words = table.words; homes = table.homes; views = views })
reviewed shape table kept views stand apart = record {
  allowed = kept.allowed;
  run = kept.run;
  is = kept.is;
  head = kept.head;
  wide = kept.wide;
  deep = kept.deep;
  stand = stand;
  apart = λ i j v w a e f of_v of_w. apart i j a (record { view = v; there = e; own = of_v }) (record { view = w; there = f; own = of_w });
  boxes = kept.boxes;
}

-- two owners of old
pub old_apart : (shape : Shape) (table : Table) (kept : Kept shape table) (i j : ℕ) (a : Actor) → Owner shape table.views i a → Owner shape table.views j a → i ≡ j
old_apart shape table kept i j a one two = kept.apart i j one.view two.view a one.there two.there one.own two.own

-- ---- a pass is parted from the token of all

module _ (shape : Shape) (id : ℕ) (log : List Entry) (logs : List (List Entry)) (low : length logs < size shape) where
  abbrev last : Actor
  last = actor_at shape (length logs)

  abbrev all : View
  all = keeping shape (log ∷ logs)

  abbrev fewer : View
  fewer = keeping shape logs

  abbrev alone : View
  alone = sitting shape last log Resting

  last_place : place_of shape last ≡ length logs
  last_place = place_of_actor shape (length logs) low

  module _ (table : Table) (kept : Kept shape table) (there : get_elem? table.views id ≡ some all) where
    abbrev parted : List View
    parted = slice_set table.views id fewer ++ alone ∷ []

    stand_all : Stands shape table.words kept.run (Keeping (log ∷ logs))
    stand_all = kept.stand id all there

    fewer_stands : Stands shape table.words kept.run (Keeping logs)
    fewer_stands a inside lower = stand_all a inside (omega (arith, lower)) ∙ log_lower shape log logs a lower

    alone_stands : Stands shape table.words kept.run (Sitting last log Resting)
    alone_stands =
        let inside = actor_inside shape (length logs) low in
        (inside, stand_all last inside (let at = last_place in omega (arith, at)) ∙ log_last shape log logs last last_place, tt)

    parted_stand : (i : ℕ) (v : View) → get_elem? parted i ≡ some v → Stands shape table.words kept.run v.part
    parted_stand i v e = elim (at_end (slice_set table.views id fewer) alone v i e) [
      | inr new ↦ subst (λ x. Stands shape table.words kept.run x.part) new.1 alone_stands
      | inl old ↦ elim (at_set table.views id i fewer v old) [
        | inl own ↦ subst (λ x. Stands shape table.words kept.run x.part) own.1 fewer_stands
        | inr other ↦ kept.stand i v other.1
      ]
    ]

    -- who owned an actor before: the new pass's actor was of the token of all, and no actor that this one still has is that of the new pass
    abbrev WasOwned : ℕ → Actor → Type 0
    WasOwned i a = (Owner shape table.views i a × (i ≡ id → place_of shape a < length logs)) ⊎ ((i ≡ length table.views) × (last ≡ a))

    was_owned : (i : ℕ) (a : Actor) → Owner shape parted i a → WasOwned i a
    was_owned i a owner = elim (at_end (slice_set table.views id fewer) alone owner.view i owner.there) [
      | inr new ↦ inr (new.0 ∙ length-set table.views id fewer, subst (λ x. IsOf shape x.part a) (sym new.1) owner.own)
      | inl old ↦ elim (at_set table.views id i fewer owner.view old) [
        | inl own ↦
            let of_fewer : IsOf shape (Keeping logs) a = subst (λ x. IsOf shape x.part a) (sym own.1) owner.own in
            inl (
              record { view = all; there = subst (λ k. get_elem? table.views k ≡ some all) (sym own.0) there; own = (of_fewer.0, let lower = of_fewer.1 in omega (arith, lower)) },
              λ e. of_fewer.1,
            )
        | inr other ↦ inl (record { view = owner.view; there = other.1; own = owner.own }, λ e. absurd (other.0 e))
      ]
    ]

    last_owner : Owner shape table.views id last
    last_owner = record { view = all; there = there; own = (actor_inside shape (length logs) low, let at = last_place in omega (arith, at)) }

    not_last : (i : ℕ) (a : Actor) → Owner shape table.views i a → (i ≡ id → place_of shape a < length logs) → last ≡ a → ⊥
    not_last i a owner lower same =
        let mine = subst (λ x. Owner shape table.views id x) same last_owner in
        let here = old_apart shape table kept i id a owner mine in
        let below = lower here in let at = sym (ap (place_of shape) same) ∙ last_place in omega (arith, below, at)

    parted_apart : (i j : ℕ) (a : Actor) → Owner shape parted i a → Owner shape parted j a → i ≡ j
    parted_apart i j a one two = elim (was_owned i a one) [
      | inl old ↦ elim (was_owned j a two) [
        | inl also ↦ old_apart shape table kept i j a old.0 also.0
        | inr new ↦ absurd (not_last i a old.0 old.1 new.1)
      ]
      | inr new ↦ elim (was_owned j a two) [
        | inl old ↦ absurd (not_last j a old.0 old.1 new.1)
        | inr also ↦ new.0 ∙ sym also.0
      ]
    ]

  pub splits : Splits (Kept shape) id (keeping shape (log ∷ logs)) (keeping shape logs) (sitting shape (actor_at shape (length logs)) log Resting)
  splits table kept there = reviewed shape table kept (parted table kept there) (parted_stand table kept there) (parted_apart table kept there)

  pub parts_on : (table : Table) (kept : Kept shape table) → get_elem? table.views id ≡ some (keeping shape (log ∷ logs))
      → GoesOn shape table kept (record {
        words = table.words;
        homes = table.homes;
        views = slice_set table.views id (keeping shape logs) ++ sitting shape (actor_at shape (length logs)) log Resting ∷ [];
      }) []
  parts_on table kept there = (reviewed shape table kept (parted table kept there) (parted_stand table kept there) (parted_apart table kept there), refl)

-- ---- a pass comes back

module _ (shape : Shape) (id other : ℕ) (me : Actor) (log : List Entry) (logs : List (List Entry)) (next : place_of shape me ≡ length logs) where
  abbrev before : View
  before = keeping shape logs

  abbrev mine : View
  mine = sitting shape me log Resting

  abbrev joined : View
  joined = keeping shape (log ∷ logs)

  module _ (table : Table) (kept : Kept shape table) (there : get_elem? table.views id ≡ some before) (apart : ¬ (other ≡ id))
      (here_now : get_elem? (slice_set table.views id joined) other ≡ some mine) where
    abbrev merged : List View
    merged = slice_set (slice_set table.views id joined) other spent

    own_there : get_elem? table.views other ≡ some mine
    own_there = elim (at_set table.views id other joined mine here_now) [
      | inl same ↦ absurd (apart same.0)
      | inr old ↦ old.1
    ]

    my_stand : Stands shape table.words kept.run (Sitting me log Resting)
    my_stand = kept.stand other mine own_there

    joined_stands : Stands shape table.words kept.run (Keeping (log ∷ logs))
    joined_stands a inside low = elim (below_next (place_of shape a) (length logs) low) [
      | inl at ↦
          let same : me ≡ a = same_place shape me a my_stand.0 inside (next ∙ sym at) in
          subst (λ x. log_of kept.run x ≡ log) same my_stand.1 ∙ sym (log_last shape log logs a at)
      | inr lower ↦ kept.stand id before there a inside lower ∙ sym (log_lower shape log logs a lower)
    ]

    merged_stand : (i : ℕ) (v : View) → get_elem? merged i ≡ some v → Stands shape table.words kept.run v.part
    merged_stand i v e = elim (at_set (slice_set table.views id joined) other i spent v e) [
      | inl gone ↦
          subst (λ x. Stands shape table.words kept.run x.part) gone.1 (λ a inside low. absurd (omega (arith, low)))
      | inr old ↦ elim (at_set table.views id i joined v old.1) [
        | inl own ↦ subst (λ x. Stands shape table.words kept.run x.part) own.1 joined_stands
        | inr more ↦ kept.stand i v more.1
      ]
    ]

    -- who owned an actor before
    abbrev HadOwner : ℕ → Actor → Type 0
    HadOwner i a = ((i ≡ id) × (Owner shape table.views id a ⊎ Owner shape table.views other a)) ⊎ ((i ≢ id) × (i ≢ other) × Owner shape table.views i a)

    had_owner : (i : ℕ) (a : Actor) → Owner shape merged i a → HadOwner i a
    had_owner i a owner = elim (at_set (slice_set table.views id joined) other i spent owner.view owner.there) [
      | inl gone ↦
          let of_none : IsOf shape (Keeping []) a = subst (λ x. IsOf shape x.part a) (sym gone.1) owner.own in
          absurd (let low = of_none.1 in omega (arith, low))
      | inr old ↦ elim (at_set table.views id i joined owner.view old.1) [
        | inr more ↦ inr (more.0, old.0, record { view = owner.view; there = more.1; own = owner.own })
        | inl own ↦
            let of_both : IsOf shape (Keeping (log ∷ logs)) a = subst (λ x. IsOf shape x.part a) (sym own.1) owner.own in
            elim (below_next (place_of shape a) (length logs) of_both.1) [
              | inl at ↦
                  let same : me ≡ a = same_place shape me a my_stand.0 of_both.0 (next ∙ sym at) in
                  inl (own.0, inr (record { view = mine; there = own_there; own = same }))
              | inr lower ↦ inl (own.0, inl (record { view = before; there = there; own = (of_both.0, lower) }))
            ]
      ]
    ]

    not_both : (j : ℕ) (a : Actor) → Owner shape table.views id a ⊎ Owner shape table.views other a → j ≢ id → j ≢ other → Owner shape table.views j a → ⊥
    not_both j a (inl first) off gone owner = off (old_apart shape table kept j id a owner first)
    not_both j a (inr second) off gone owner = gone (old_apart shape table kept j other a owner second)

    merged_apart : (i j : ℕ) (a : Actor) → Owner shape merged i a → Owner shape merged j a → i ≡ j
    merged_apart i j a one two = elim (had_owner i a one) [
      | inl first ↦ elim (had_owner j a two) [
        | inl also ↦ first.0 ∙ sym also.0
        | inr old ↦ absurd (not_both j a first.1 old.0 old.1 old.2)
      ]
      | inr old ↦ elim (had_owner j a two) [
        | inl also ↦ absurd (not_both i a also.1 old.0 old.1 old.2)
        | inr more ↦ old_apart shape table kept i j a old.2 more.2
      ]
    ]

  pub joins : Joins (Kept shape) id (keeping shape logs) other (sitting shape me log Resting) (keeping shape (log ∷ logs)) spent
  joins table kept there apart here_now =
      reviewed shape table kept (merged table kept there apart here_now) (merged_stand table kept there apart here_now) (merged_apart table kept there apart here_now)

  pub joins_on : (table : Table) (kept : Kept shape table) → get_elem? table.views id ≡ some (keeping shape logs) → ¬ (other ≡ id)
      → get_elem? (slice_set table.views id (keeping shape (log ∷ logs))) other ≡ some (sitting shape me log Resting)
      → GoesOn shape table kept (record {
        words = table.words;
        homes = table.homes;
        views = slice_set (slice_set table.views id (keeping shape (log ∷ logs))) other spent;
      }) []
  joins_on table kept there apart here_now =
      (reviewed shape table kept (merged table kept there apart here_now) (merged_stand table kept there apart here_now) (merged_apart table kept there apart here_now), refl)

-- ---- a token of nobody

pub enters : (shape : Shape) (slots word : ℕ)
    → Enters (Kept shape) slots word (λ n w. EntersAs (step slots word 0 0 none) (first_view shape, []) n (w, []))
enters shape slots word table kept long small = (
  keeping shape [],
  reviewed shape table kept (table.views ++ keeping shape [] ∷ []) stand apart,
  refl,
)
  where
    stand : (i : ℕ) (v : View) → get_elem? (table.views ++ keeping shape [] ∷ []) i ≡ some v → Stands shape table.words kept.run v.part
    stand i v e = elim (at_end table.views (keeping shape []) v i e) [
      | inl old ↦ kept.stand i v old
      | inr new ↦ subst (λ x. Stands shape table.words kept.run x.part) new.1 (λ a inside low. absurd (omega (arith, low)))
    ]

    was : (i : ℕ) (a : Actor) → Owner shape (table.views ++ keeping shape [] ∷ []) i a → Owner shape table.views i a
    was i a owner = elim (at_end table.views (keeping shape []) owner.view i owner.there) [
      | inl old ↦ record { view = owner.view; there = old; own = owner.own }
      | inr new ↦
          let of_none : IsOf shape (Keeping []) a = subst (λ x. IsOf shape x.part a) (sym new.1) owner.own in
          absurd (let low = of_none.1 in omega (arith, low))
    ]

    apart : (i j : ℕ) (a : Actor) → Owner shape (table.views ++ keeping shape [] ∷ []) i a → Owner shape (table.views ++ keeping shape [] ∷ []) j a → i ≡ j
    apart i j a one two = old_apart shape table kept i j a (was i a one) (was j a two)

-- ---- all logs are those of a run

pub is_actor_cases : (shape : Shape) (a : Actor) → (IsActor shape a × (is_actor shape a ≡ true)) ⊎ ((¬ IsActor shape a) × (is_actor shape a ≡ false))
is_actor_cases shape (Replica p) = by_test (nat_lt p shape.n) refl
  where
    by_test : (b : Bool) → nat_lt p shape.n ≡ b → ((p < shape.n) × (nat_lt p shape.n ≡ true)) ⊎ ((¬ (p < shape.n)) × (nat_lt p shape.n ≡ false))
    by_test true e = inl (grind (arith, nat_tests), e)
    by_test false e = inr ((λ low. grind (arith, nat_tests)), e)
is_actor_cases shape (Client c) = by_test (nat_lt c shape.m) refl
  where
    by_test : (b : Bool) → nat_lt c shape.m ≡ b → ((c < shape.m) × (nat_lt c shape.m ≡ true)) ⊎ ((¬ (c < shape.m)) × (nat_lt c shape.m ≡ false))
    by_test true e = inl (grind (arith, nat_tests), e)
    by_test false e = inr ((λ low. grind (arith, nat_tests)), e)

pub outside_empty : (shape : Shape) (run : List Step) → IsRun shape run → (a : Actor) → ¬ IsActor shape a → log_of run a ≡ []
outside_empty shape run is a outside = by_first (log_of run a) refl
  where
    by_first : (log : List Entry) → log_of run a ≡ log → log_of run a ≡ []
    by_first [] e = e
    by_first (entry ∷ rest) e = absurd (outside (actors_within shape run is a entry (subst (In entry) (sym e) (here refl))).0)

all_logs : (shape : Shape) (table : Table) (kept : Kept shape table) (id : ℕ) (logs : List (List Entry)) → get_elem? table.views id ≡ some (keeping shape logs)
    → length logs ≡ size shape → AreLogs shape (logs_in shape logs)
all_logs shape table kept id logs there all = record { run = kept.run; is = kept.is; each = each }
  where
    each : (a : Actor) → log_of kept.run a ≡ logs_in shape logs a
    each a = elim (is_actor_cases shape a) [
      | inl inside ↦
          kept.stand id (keeping shape logs) there a inside.0 (let low = place_below shape a inside.0 in omega (arith, low, all))
          ∙ sym (ap (λ b. if b then log_at shape logs a else []) inside.1)
      | inr outside ↦
          outside_empty shape kept.run kept.is a outside.0
          ∙ sym (ap (λ b. if b then log_at shape logs a else []) outside.1)
    ]

pub learns : (shape : Shape) (slots id word : ℕ) (logs : List (List Entry))
    → Allows (Kept shape) slots id (keeping shape logs, []) word (λ n. n) (Learns (step slots word 0 0 none) (keeping shape logs, []))
learns shape slots id word logs table kept long there small = (
  keeping shape logs,
  keeps,
  tt,
  unmoved shape table word id (keeping shape logs) there kept,
  λ all. all_logs shape table kept id logs there all,
)

-- ---- the boxes before any step

abbrev pub first_words : Shape → List ℕ
first_words shape = shape.n ∷ shape.f ∷ shape.m ∷ shape.traitors ∷ replicate (size shape * size shape) 0

pub opens : (shape : Shape) → IsAllowed shape
    → Kept shape (opening (first_words shape) (replicate {A = Option Envelope} (size shape * size shape) None) (first_view shape))
opens shape allowed = record {
  allowed = allowed;
  run = [];
  is = tt;
  head = record { n = refl; f = refl; m = refl; traitors = refl };
  wide = ap (λ k. suc (suc (suc (suc k)))) (length-replicate (size shape * size shape) 0) ∙ four (size shape * size shape);
  deep = length_map (replicate (size shape * size shape) None) ∙ length-replicate (size shape * size shape) None;
  stand = stand;
  apart = λ i j v w a e f of_v of_w. zero_only i v e ∙ sym (zero_only j w f);
  boxes = λ a b in_a in_b. box a b in_a in_b;
}
  where
    four : (k : ℕ) → suc (suc (suc (suc k))) ≡ 4 + k
    four k = omega arith

    length_map : (l : List (Option Envelope)) → length (map some l) ≡ length l
    length_map [] = refl
    length_map (x ∷ xs) = ap suc (length_map xs)

    stand : (i : ℕ) (v : View) → get_elem? (first_view shape ∷ []) i ≡ some v → Stands shape (first_words shape) [] v.part
    stand zero v e =
        subst (λ x. Stands shape (first_words shape) [] x.part) (some-injective _ _ e) (λ a inside low. sym (log_blank shape (size shape) a))
    stand (suc i) v e = absurd (some-ne-none v (sym e))

    zero_only : (i : ℕ) (v : View) → get_elem? (first_view shape ∷ []) i ≡ some v → i ≡ 0
    zero_only zero v e = refl
    zero_only (suc i) v e = absurd (some-ne-none v (sym e))

    nothing_there : (n k : ℕ) → k < n → get_elem? (map some (replicate {A = Option Envelope} n None)) k ≡ some (some None)
    nothing_there zero k low = absurd (omega (arith, low))
    nothing_there (suc n) zero low = refl
    nothing_there (suc n) (suc k) low = nothing_there n k (omega (arith, low))

    word_zero : (slot : ℕ) → slot < size shape * size shape → slice_index (first_words shape) (suc (suc (suc (suc slot)))) ≡ 0
    word_zero slot low = get_or-replicate (size shape * size shape) slot 0 0 low

    box : (a b : Actor) → IsActor shape a → IsActor shape b
        → Agrees (slice_index (first_words shape) (word_of shape a b)) [] [] (get_elem? (map some (replicate {A = Option Envelope} (size shape * size shape) None)) (slot_of shape a b))
    box a b in_a in_b =
        let low = slot_below shape a b in_a in_b in
        subst (λ w. Agrees w [] [] (get_elem? (map some (replicate {A = Option Envelope} (size shape * size shape) None)) (slot_of shape a b)))
        (sym (ap (slice_index (first_words shape)) (sym (four (slot_of shape a b))) ∙ word_zero (slot_of shape a b) low))
        (refl, nothing_there (size shape * size shape) (slot_of shape a b) low)

pub opens_empty : (shape : Shape) (allowed : IsAllowed shape) → (opens shape allowed).run ≡ []
unfolding opens
opens_empty shape allowed = refl

-- who has done nothing is in the run of no step
pub new_in_run : (shape : Shape) (me : Actor) (log : List Entry) → log ≡ [] → IsInRun shape me log
new_in_run shape me log empty = record { logs = λ a. []; are = no_logs shape; own = sym empty }

-- what is parted is the pass of the actor at this place, who has done nothing
pub parted_pass : (shape : Shape) (place : ℕ) (m own : Holding) (actor : Actor) → m ≡ (keeping shape ([] ∷ replicate place []), []) → own ≡ (last_alone m.0, [])
    → actor ≡ actor_at shape place → IsActor shape actor
    → (own ≡ resting own.0.shape actor (log_in own.0.part)) × IsActor own.0.shape actor × IsInRun own.0.shape actor (log_in own.0.part)
parted_pass shape place m own actor m_is own_is actor_is inside =
    let rests : own ≡ resting shape actor [] =
    own_is ∙ (ap (λ x. (last_alone x.0, [])) m_is
    ∙ (λ i. resting shape (actor_at shape (length-replicate {A = List Entry} place [] i)) []) ∙ sym (ap (λ a. resting shape a []) actor_is)) in
    subst (λ y. (y ≡ resting y.0.shape actor (log_in y.0.part)) × IsActor y.0.shape actor × IsInRun y.0.shape actor (log_in y.0.part)) (sym rests)
    (refl, inside, new_in_run shape actor [] refl)

-- ---- as calls ask for them

pub some_words : (words k : ℕ) → words ≡ 4 + k → 0 < words
some_words words k e = omega (arith, e)

pub splits_as : (shape key : Shape) (id place : ℕ) (v : View) → shape ≡ key → place < size shape → v ≡ keeping shape ([] ∷ replicate place [])
    → Splits (Kept key) id v (without_last v) (last_alone v)
splits_as shape key id place v same low is =
    subst (λ k. Splits (Kept k) id v (without_last v) (last_alone v)) same
    (subst (λ x. Splits (Kept shape) id x (without_last x) (last_alone x)) (sym is)
    (splits shape id [] (replicate place []) (subst (λ n. n < size shape) (sym (length-replicate place [])) low)))

pub joins_as : (shape key : Shape) (id other : ℕ) (v w : View) (me : Actor) (log : List Entry) (logs : List (List Entry)) → shape ≡ key
    → v ≡ keeping shape logs → w ≡ sitting shape me log Resting → place_of shape me ≡ length logs → Joins (Kept key) id v other w (with_next v w) spent
joins_as shape key id other v w me log logs same v_is w_is next =
    subst (λ k. Joins (Kept k) id v other w (with_next v w) spent) same
    (subst (λ x. Joins (Kept shape) id x other w (with_next x w) spent) (sym v_is)
    (subst (λ y. Joins (Kept shape) id (keeping shape logs) other y (with_next (keeping shape logs) y) spent) (sym w_is)
    (joins shape id other me log logs next)))

pub learns_as : (shape key : Shape) (slots id word : ℕ) (m : Holding) (logs : List (List Entry)) → shape ≡ key → m ≡ (keeping shape logs, [])
    → Allows (Kept key) slots id m word (λ n. n) (Learns (step slots word 0 0 none) m)
learns_as shape key slots id word m logs same is =
    subst (λ k. Allows (Kept k) slots id m word (λ n. n) (Learns (step slots word 0 0 none) m)) same
    (subst (λ x. Allows (Kept shape) slots id x word (λ n. n) (Learns (step slots word 0 0 none) x)) (sym is) (learns shape slots id word logs))

pub opens_as : (shape : Shape) (words : List ℕ) (count : ℕ) → IsAllowed shape → words ≡ first_words shape → count ≡ size shape * size shape
    → Kept shape (opening words (replicate {A = Option Envelope} count None) (first_view shape))
opens_as shape words count allowed w_is c_is =
    subst (λ ws. Kept shape (opening ws (replicate {A = Option Envelope} count None) (first_view shape))) (sym w_is)
    (subst (λ n. Kept shape (opening (first_words shape) (replicate {A = Option Envelope} n None) (first_view shape))) (sym c_is) (opens shape allowed))

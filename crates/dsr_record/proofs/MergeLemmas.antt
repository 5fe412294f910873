-- How logs are merged: what is next, what is left, and that a merge goes on.
use Rattle.std.proofs.Common.{◌≡◌, ℕ, suc, ◌+◌, ◌<◌, ◌≤◌, ◌-◌, ◌^◌, nat_lt, Bool, true, false, List, [], ◌∷◌, ◌++◌, None, Some, length, length-append, reverse, ◌⊎◌, inl, inr, refl, ap, sym, ◌∙◌, subst, arith, if◌then◌else◌}
use Rattle.std.specs.Prelude.{All, slice_get, slice_index_or, slice_set}
use Rattle.std.proofs.lemmas.Option.{none-some, same_Some}
use Rattle.std.proofs.lemmas.Bool.{cases_Bool}
use Rattle.std.proofs.lemmas.Bool.Decides.{nat_tests}
use Rattle.std.proofs.lemmas.List.{append_assoc, append_cancel_right, reverse-append, reverse-reverse, get_or-set_same, get_or-set_other, length-set}
use Rattle.std.proofs.lemmas.List.Elements.{All-nil, All-cons, All-get_or, All-append}
use Rattle.dsr_base.specs.Member.{In, here}
use Rattle.dsr_base.proofs.MemberLemmas.{In-append_right}
use Rattle.dsr_names.proofs.PlaceLemmas.{place_below, same_place, place_of_actor}
use Rattle.dsr_names.specs.Places.{size, place_of, actor_at}
use Rattle.dsr_names.specs.Shape.{Shape, IsActor}
use Rattle.dsr_names.specs.Support.ActorEquality.{actor_eq}
use Rattle.dsr_names.specs.declared.actor.Actor.{Actor}
use Rattle.dsr_names.specs.declared.actor.Actor.TheVariants.{Replica, Client}
use Rattle.dsr_envelope.specs.Limits.{IsEnvelope}
use Rattle.dsr_envelope.specs.Log.{posted_to}
use Rattle.dsr_envelope.specs.declared.entry.Entry.{Entry}
use Rattle.dsr_envelope.specs.declared.entry.Entry.TheVariants.{Post, Take}
use Rattle.dsr_run.proofs.Lemmas.{log_cases, actors_within, posted_within, taken_within}
use Rattle.dsr_run.specs.Run.{AreLogs, KeepsBox, KeepsLimits, envelope_of, other_of}
use Rattle.dsr_run.specs.Step.{Step, Logs, log_of}
use Rattle.dsr_record.proofs.MergeBoxes.{same_actor}
use Rattle.dsr_record.specs.Merge.{CanGoOn, HasTurn, IsMerge, IsNextOf, IsStuck, IsWhole, StopsAt}
use Rattle.dsr_record.specs.Support.Merging.{AreBoxes, AreRests, IsMerging}
use Rattle.dsr_base.specs.declared.boxes.MailBox.{MailBox}
use Rattle.dsr_record.specs.declared.mailboxes.Held.{Held}
use Rattle.dsr_record.specs.declared.merging.Rest.{Rest}

-- ---- lists

-- the first entry, or `d` for an empty list
first_or : Entry → List Entry → Entry
first_or d [] = d
first_or d (entry ∷ more) = entry

-- what begins with an entry is not empty
pub nonempty : (entry : Entry) (more : List Entry) → ¬ (entry ∷ more ≡ [])
nonempty entry more e = let count = ap length e in omega (arith, count)

-- a list with a first element
pub first_is : (entries : List Entry) (entry : Entry) → slice_get entries 0 ≡ Some entry → (more : List Entry) × (entries ≡ entry ∷ more)
first_is [] entry e = absurd (none-some entry e)
first_is (other ∷ more) entry e = (more, ap (λ x. x ∷ more) (same_Some other entry e))

-- a list without
pub none_is : (entries : List Entry) → slice_get entries 0 ≡ None → entries ≡ []
none_is [] e = refl
none_is (other ∷ more) e = absurd (none-some other (sym e))

-- what a rest begins with is next
pub next_is : (all merged more : List Entry) (entry : Entry) → all ≡ reverse (entry ∷ more) ++ merged → all ≡ reverse more ++ entry ∷ merged
next_is all merged more entry e =
    e ∙ (ap (λ l. l ++ merged) (reverse-append (entry ∷ []) more) ∙ append_assoc (reverse more) (entry ∷ []) merged)

-- and what is next a rest begins with
pub next_one : (all merged rest later : List Entry) (entry : Entry) → all ≡ reverse rest ++ merged → all ≡ later ++ entry ∷ merged
    → rest ≡ entry ∷ reverse later
next_one all merged rest later entry e f =
    let both : reverse rest ++ merged ≡ (later ++ entry ∷ []) ++ merged = sym e ∙ (f ∙ sym (append_assoc later (entry ∷ []) merged)) in
    let front = append_cancel_right (reverse rest) (later ++ entry ∷ []) merged both in
    sym (reverse-reverse rest) ∙ (ap reverse front ∙ reverse-append later (entry ∷ []))

-- ---- what can go on

module _ (logs : Logs) (merged : List Step) (a : Actor) (rest : List Entry) (left : logs a ≡ reverse rest ++ log_of merged a) where
  -- the first entry of the rest, and no other, is what can go on
  pub first_goes : (entry : Entry) (more : List Entry) → rest ≡ entry ∷ more → KeepsBox (log_of merged) a entry → CanGoOn logs merged a
  first_goes entry more e box = record {
    entry = entry;
    next = (reverse more, next_is (logs a) (log_of merged a) more entry (left ∙ ap (λ l. reverse l ++ log_of merged a) e));
    box = box;
  }

  pub goes_first : (entry : Entry) (more : List Entry) → rest ≡ entry ∷ more → CanGoOn logs merged a → KeepsBox (log_of merged) a entry
  unfolding first_or
  goes_first entry more e can =
      let same = next_one (logs a) (log_of merged a) rest can.next.0 can.entry left can.next.1 in
      subst (KeepsBox (log_of merged) a) (ap (first_or entry) (sym same ∙ e)) can.box

  -- nothing can go on if nothing is left
  pub none_goes : rest ≡ [] → ¬ CanGoOn logs merged a
  none_goes e can =
      let same = next_one (logs a) (log_of merged a) rest can.next.0 can.entry left can.next.1 in
      nonempty can.entry (reverse can.next.0) (sym same ∙ e)

  -- the first entry of the rest is the next
  pub next_of : (entry : Entry) (more : List Entry) → rest ≡ entry ∷ more → IsNextOf logs merged a entry
  next_of entry more e = (reverse more, next_is (logs a) (log_of merged a) more entry (left ∙ ap (λ l. reverse l ++ log_of merged a) e))

-- ---- what an entry of logs of a run is

-- the next entry is in the log
in_log : (logs : Logs) (merged : List Step) (a : Actor) (entry : Entry) → IsNextOf logs merged a entry → In entry (logs a)
in_log logs merged a entry next = subst (In entry) (sym next.1) (In-append_right entry next.0 (entry ∷ log_of merged a) (here refl))

module _ (shape : Shape) (logs : Logs) (are : AreLogs shape logs) (a : Actor) where
  own_entry : (entry : Entry) → In entry (logs a) → In entry (log_of are.run a)
  own_entry entry h = subst (In entry) (sym (are.each a)) h

  entry_other : (entry : Entry) → In entry (logs a) → IsActor shape (other_of entry)
  entry_other entry h = (actors_within shape are.run are.is a entry (own_entry entry h)).1

  entry_within : (entry : Entry) → In entry (logs a) → IsEnvelope (envelope_of entry)
  entry_within (Post to x) h = posted_within shape are.run are.is a to x (own_entry (Post to x) h)
  entry_within (Take from x) h = taken_within shape are.run are.is a from x (own_entry (Take from x) h)

  -- it is with an actor of the shape
  pub next_other : (merged : List Step) (entry : Entry) → IsNextOf logs merged a entry → IsActor shape (other_of entry)
  next_other merged entry next = entry_other entry (in_log logs merged a entry next)

  -- its envelope is within the limits
  pub next_within : (merged : List Step) (entry : Entry) → IsNextOf logs merged a entry → IsEnvelope (envelope_of entry)
  next_within merged entry next = entry_within entry (in_log logs merged a entry next)

-- a longer log has at least as many posts
posts_grow : (to : Actor) (later older : List Entry) → length (posted_to to older) ≤ length (posted_to to (later ++ older))
posts_grow to [] older = omega arith
posts_grow to (Take from x ∷ later) older = posts_grow to later older
posts_grow to (Post other x ∷ later) older = by_test (actor_eq other to) (posts_grow to later older)
  where
    by_test : (t : Bool) → length (posted_to to older) ≤ length (posted_to to (later ++ older))
        → length (posted_to to older) ≤ length (if t then posted_to to (later ++ older) ++ x ∷ [] else posted_to to (later ++ older))
    by_test true before = omega (arith, before, length-append (posted_to to (later ++ older)) (x ∷ []))
    by_test false before = before

-- the next entry is within the limits of its box
pub next_limits : (shape : Shape) (logs : Logs) (are : AreLogs shape logs) (merged : List Step) (a : Actor) (entry : Entry)
    → ((b : Actor) → length (posted_to b (logs a)) < 2 ^ 40) → IsNextOf logs merged a entry → KeepsLimits (log_of merged) a entry
next_limits shape logs are merged a (Take from x) few next = tt
next_limits shape logs are merged a (Post to x) few next =
    let grown = posts_grow to next.0 (Post to x ∷ log_of merged a) in
    let whole = ap (λ l. length (posted_to to l)) next.1 in
    let one = ap length (ap (λ t. if t then posted_to to (log_of merged a) ++ x ∷ [] else posted_to to (log_of merged a)) (same_actor to)) in
    let small = few to in (
      next_within shape logs are a merged (Post to x) next,
      omega (arith, grown, whole, one, small, length-append (posted_to to (log_of merged a)) (x ∷ [])),
    )

-- ---- what is left

-- the rests after one more entry of this actor
pub rests_after : (shape : Shape) (logs : Logs) (merged : List Step) (rests : List Rest) (a : Actor) (entry : Entry) (more : List Entry) (rest : Rest)
    → AreRests shape logs (log_of merged) rests → IsActor shape a → rest.entries.now ≡ more → logs a ≡ reverse (entry ∷ more) ++ log_of merged a
    → AreRests shape logs (log_of ((a, entry) ∷ merged)) (slice_set rests (place_of shape a) rest)
rests_after shape logs merged rests a entry more rest are actor same left = record {
  count = length-set rests (place_of shape a) rest ∙ are.count;
  each = λ b inside d. elim (log_cases (a, entry) merged b) [
    | inl own ↦ subst (λ c. IsLeft c d) own.0 (own_left d)
    | inr other ↦
        are.each b inside d
        ∙ (ap (λ r. reverse r.entries.now ++ log_of merged b) (sym (get_or-set_other rests (place_of shape a) (place_of shape b) rest d
        (λ e. other.0 (same_place shape a b actor inside (sym e)))))
        ∙ ap (λ l. reverse (slice_index_or (slice_set rests (place_of shape a) rest) (place_of shape b) d).entries.now ++ l) (sym other.1))
  ];
}
  where
    IsLeft : Actor → Rest → Type 0
    IsLeft c d = logs c ≡ reverse (slice_index_or (slice_set rests (place_of shape a) rest) (place_of shape c) d).entries.now ++ log_of ((a, entry) ∷ merged) c

    own_left : (d : Rest) → IsLeft a d
    own_left d =
        let below = place_below shape a actor in
        let here_is : place_of shape a < length rests = omega (arith, below, are.count) in
        elim (log_cases (a, entry) merged a) [
          | inr other ↦ absurd (other.0 refl)
          | inl own ↦
              next_is (logs a) (log_of merged a) more entry left
              ∙ (ap (λ l. reverse l ++ entry ∷ log_of merged a) (sym same)
              ∙ (ap (λ r. reverse r.entries.now ++ entry ∷ log_of merged a) (sym (get_or-set_same rests (place_of shape a) rest d here_is))
              ∙ ap (λ l. reverse (slice_index_or (slice_set rests (place_of shape a) rest) (place_of shape a) d).entries.now ++ l) (sym own.1)))
        ]

-- the rest at an actor's place
pub left_at : (shape : Shape) (logs merged : Logs) (rests : List Rest) → AreRests shape logs merged rests → (a : Actor) → IsActor shape a
    → (place : ℕ) → place ≡ place_of shape a → (rest : Rest) → rest ≡ slice_index_or rests place rest → logs a ≡ reverse rest.entries.now ++ merged a
left_at shape logs merged rests are a inside place at rest is =
    are.each a inside rest ∙ ap (λ r. reverse r.entries.now ++ merged a) (sym (is ∙ ap (λ i. slice_index_or rests i rest) at))

-- a merge goes on by the next entry of the actor whose turn it is
pub merging_on : (shape : Shape) (logs : Logs) (merged : List Step) (rests : List Rest) (rows later : List (List (MailBox Held))) (a : Actor) (entry : Entry)
    (more : List Entry) (rest : Rest) → IsMerging shape logs merged rests rows → HasTurn shape logs merged a → rest.entries.now ≡ more
    → logs a ≡ reverse (entry ∷ more) ++ log_of merged a → AreBoxes shape (log_of ((a, entry) ∷ merged)) later
    → IsMerging shape logs ((a, entry) ∷ merged) (slice_set rests (place_of shape a) rest) later
merging_on shape logs merged rests rows later a entry more rest m turn same left boxes = record {
  are = m.are;
  merge = (m.merge, turn, (reverse more, next_is (logs a) (log_of merged a) more entry left));
  left = rests_after shape logs merged rests a entry more rest m.left turn.is_actor same left;
  boxes = boxes;
}

-- an actor that is not of the shape has nothing in a merge
pub none_merged : (shape : Shape) (logs : Logs) (merged : List Step) → IsMerge shape logs merged → (a : Actor) → ¬ IsActor shape a → log_of merged a ≡ []
none_merged shape logs [] is a outside = refl
none_merged shape logs ((actor, entry) ∷ older) is a outside = elim (log_cases (actor, entry) older a) [
  | inl own ↦ absurd (outside (subst (IsActor shape) own.0 is.1.is_actor))
  | inr other ↦ other.1 ∙ none_merged shape logs older is.0 a outside
]

below_or_not : (a b : ℕ) → (a < b) ⊎ (¬ (a < b))
below_or_not a b = elim (cases_Bool (nat_lt a b)) [
  | inl less ↦ inl (grind (arith, nat_tests))
  | inr more ↦ inr (λ h. grind (arith, nat_tests))
]

-- an actor is of the shape or it is not
pub actor_or_not : (shape : Shape) (a : Actor) → IsActor shape a ⊎ (¬ IsActor shape a)
actor_or_not shape (Replica p) = below_or_not p shape.n
actor_or_not shape (Client c) = below_or_not c shape.m

-- if nothing is left, each log is merged whole
pub all_merged : (shape : Shape) (logs : Logs) (merged : List Step) (rests : List Rest) → IsMerge shape logs merged
    → AreRests shape logs (log_of merged) rests → ((a : Actor) → ¬ IsActor shape a → logs a ≡ []) → All (λ rest. rest.entries.now ≡ []) rests
    → IsWhole logs merged
all_merged shape logs merged rests is are outside all a = elim (actor_or_not shape a) [
  | inr apart ↦ none_merged shape logs merged is a apart ∙ sym (outside a apart)
  | inl inside ↦ by_rest inside rests are all
]
  where
    by_rest : IsActor shape a → (some : List Rest) → AreRests shape logs (log_of merged) some → All (λ rest. rest.entries.now ≡ []) some
        → log_of merged a ≡ logs a
    by_rest inside [] are all = let below = place_below shape a inside in let count = are.count in absurd (omega (arith, below, count))
    by_rest inside (d ∷ more) are all =
        let below = place_below shape a inside in
        let count = are.count in
        let here_is : place_of shape a < length (d ∷ more) = omega (arith, below, count) in
        let empty = All-get_or (λ rest. rest.entries.now ≡ []) (d ∷ more) (place_of shape a) d here_is all in
        sym (are.each a inside d ∙ ap (λ l. reverse l ++ log_of merged a) empty)

-- somewhere something is left, if not all is merged
pub some_left : (rests : List Rest) → ¬ All (λ rest. rest.entries.now ≡ []) rests
    → (i : ℕ) × (i < length rests) × (entry : Entry) × (more : List Entry) × ((d : Rest) → (slice_index_or rests i d).entries.now ≡ entry ∷ more)
some_left [] unlike = absurd (unlike (All-nil (λ rest. rest.entries.now ≡ [])))
some_left (rest ∷ rests) unlike = by_entries rest.entries.now refl (some_left rests)
  where
    by_entries : (entries : List Entry) → rest.entries.now ≡ entries
        → (¬ All (λ r. r.entries.now ≡ []) rests → (i : ℕ) × (i < length rests) × (entry : Entry) × (more : List Entry)
        × ((d : Rest) → (slice_index_or rests i d).entries.now ≡ entry ∷ more))
        → (i : ℕ) × (i < length (rest ∷ rests)) × (entry : Entry) × (more : List Entry)
        × ((d : Rest) → (slice_index_or (rest ∷ rests) i d).entries.now ≡ entry ∷ more)
    by_entries (entry ∷ more) e others = (0, omega arith, entry, more, λ d. e)
    by_entries [] e others =
        let later = others (λ all. unlike (All-cons (λ r. r.entries.now ≡ []) rest rests e all)) in
        let below = later.1 in
        (suc later.0, omega (arith, below), later.2, later.3, later.4)

-- the actor at a place is one of the shape
actor_inside : (shape : Shape) (place : ℕ) → place < size shape → IsActor shape (actor_at shape place)
actor_inside shape place inside = by_test (nat_lt place shape.n) refl
  where
    by_test : (b : Bool) → nat_lt place shape.n ≡ b → IsActor shape (if b then Replica place else Client (place - shape.n))
    by_test true e = grind (arith, nat_tests)
    by_test false e = grind (arith, nat_tests)

-- a merge that is stuck before all is merged stops there
pub stops : (shape : Shape) (logs : Logs) (merged : List Step) (rests : List Rest) (line : ℕ) → IsMerge shape logs merged
    → AreRests shape logs (log_of merged) rests → IsStuck shape logs merged → ¬ All (λ rest. rest.entries.now ≡ []) rests
    → line ≡ length merged + 2 → StopsAt shape logs line
stops shape logs merged [] line is are stuck unlike counted = absurd (unlike (All-nil (λ rest. rest.entries.now ≡ [])))
stops shape logs merged (d ∷ rests) line is are stuck unlike counted =
    let left = some_left (d ∷ rests) unlike in
    let below = left.1 in
    let count = are.count in
    let place : left.0 < size shape = omega (arith, below, count) in
    let a = actor_at shape left.0 in
    let inside = actor_inside shape left.0 place in
    let begins = ap (λ i. (slice_index_or (d ∷ rests) i d).entries.now) (place_of_actor shape left.0 place) ∙ left.4 d in
    record {
      merged = merged;
      merge = is;
      stuck = stuck;
      actor = a;
      is_actor = inside;
      entry = left.2;
      next = next_of logs merged a (slice_index_or (d ∷ rests) (place_of shape a) d).entries.now (are.each a inside d) left.2 left.3 begins;
      counted = counted;
    }

-- what holds of each of some and of one more
pub all_more : {X : Type 0} (P : X → Type 0) (xs : List X) (x : X) → All P xs → P x → All P (xs ++ x ∷ [])
all_more P xs x all one = All-append P xs (x ∷ []) all (All-cons P x [] one (All-nil P))

-- ---- one merge

last : (k n : ℕ) → k < suc n → ¬ (k < n) → n ≡ k
last k n less most = grind (arith, less, most)

same_number : (m n : ℕ) → ¬ (m < n) → ¬ (n < m) → m ≡ n
same_number m n most least = grind (arith, most, least)

-- an actor has one next entry
next_same : (all merged later other : List Entry) (entry another : Entry) → all ≡ later ++ entry ∷ merged → all ≡ other ++ another ∷ merged
    → entry ≡ another
unfolding first_or
next_same all merged later other entry another e f =
    let rest = entry ∷ reverse later in
    let whole = next_back all merged later entry e in
    ap (first_or entry) (next_one all merged rest other another whole f)
  where
    next_back : (all merged later : List Entry) (entry : Entry) → all ≡ later ++ entry ∷ merged → all ≡ reverse (entry ∷ reverse later) ++ merged
    next_back all merged later entry e =
        e ∙ (sym (append_assoc later (entry ∷ []) merged)
        ∙ ap (λ l. l ++ merged) (ap (λ l. l ++ entry ∷ []) (sym (reverse-reverse later)) ∙ sym (reverse-append (entry ∷ []) (reverse later))))

module _ (shape : Shape) (logs : Logs) where
  -- it is one actor's turn
  turn_same : (merged : List Step) (a b : Actor) → HasTurn shape logs merged a → HasTurn shape logs merged b → a ≡ b
  turn_same merged a b one other = elim (below_or_not (place_of shape a) (place_of shape b)) [
    | inl less ↦ absurd (other.lowest a one.is_actor less one.can)
    | inr most ↦ elim (below_or_not (place_of shape b) (place_of shape a)) [
      | inl less ↦ absurd (one.lowest b other.is_actor less other.can)
      | inr least ↦ same_place shape a b one.is_actor other.is_actor (same_number (place_of shape a) (place_of shape b) most least)
    ]
  ]

  -- two merges of equally many steps are one
  merges_same : (run other : List Step) → IsMerge shape logs run → IsMerge shape logs other → length run ≡ length other → run ≡ other
  merges_same [] [] is too e = refl
  merges_same [] (step ∷ other) is too e = absurd (omega (arith, e))
  merges_same (step ∷ run) [] is too e = absurd (omega (arith, e))
  merges_same ((a, x) ∷ run) ((b, y) ∷ other) is too e =
      let count : length run ≡ length other = omega (arith, e) in
      let before = merges_same run other is.0 too.0 count in
      let turn = subst (λ r. HasTurn shape logs r b) (sym before) too.1 in
      let actor = turn_same run a b is.1 turn in
      let next = subst (λ p. IsNextOf logs run p y) (sym actor) (subst (λ r. IsNextOf logs r b y) (sym before) too.2) in
      let entry = next_same (logs a) (log_of run a) is.2.0 next.0 x y is.2.1 next.1 in
      λ i. (actor i, entry i) ∷ before i

  -- a merge with more steps begins with a shorter one, and then goes on
  record GoesOnAt (k : ℕ) : Type 0 where
    older : List Step
    count : length older ≡ k
    merge : IsMerge shape logs older
    actor : Actor
    entry : Entry
    turn : HasTurn shape logs older actor
    next : IsNextOf logs older actor entry

  goes_on_at : (run : List Step) (k : ℕ) → IsMerge shape logs run → k < length run → GoesOnAt k
  goes_on_at [] k is less = absurd (omega (arith, less))
  goes_on_at ((a, x) ∷ older) k is less = elim (below_or_not k (length older)) [
    | inl within ↦ goes_on_at older k is.0 within
    | inr most ↦ record { older = older; count = last k (length older) less most; merge = is.0; actor = a; entry = x; turn = is.1; next = is.2 }
  ]

  -- nothing is next if a log is merged whole
  none_next : (run : List Step) (a : Actor) (entry : Entry) → IsWhole logs run → ¬ IsNextOf logs run a entry
  none_next run a entry whole next =
      let count = ap length (whole a ∙ next.1) in
      omega (arith, count, length-append next.0 (entry ∷ log_of run a))

  -- no merge has more steps than a whole one
  most_whole : (run other : List Step) → IsMerge shape logs run → IsWhole logs run → IsMerge shape logs other → ¬ (length run < length other)
  most_whole run other is whole too less =
      let on = goes_on_at other (length run) too less in
      let same = merges_same on.older run on.merge is on.count in
      none_next run on.actor on.entry whole (subst (λ r. IsNextOf logs r on.actor on.entry) same on.next)

  -- there is one whole merge
  pub whole_same : (run other : List Step) → IsMerge shape logs run → IsWhole logs run → IsMerge shape logs other → IsWhole logs other → run ≡ other
  whole_same run other is whole too all =
      merges_same run other is too (same_number (length run) (length other) (most_whole run other is whole too) (most_whole other run too all is))

  -- and if there is one, no merge stops
  pub whole_goes_on : (run : List Step) (line : ℕ) → IsMerge shape logs run → IsWhole logs run → ¬ StopsAt shape logs line
  whole_goes_on run line is whole stop = elim (below_or_not (length stop.merged) (length run)) [
    | inl less ↦
        let on = goes_on_at run (length stop.merged) is less in
        let same = merges_same on.older stop.merged on.merge stop.merge on.count in
        let turn = subst (λ r. HasTurn shape logs r on.actor) same on.turn in
        stop.stuck on.actor turn.is_actor turn.can
    | inr most ↦
        let count = same_number (length stop.merged) (length run) most (most_whole run stop.merged is whole stop.merge) in
        let same = merges_same stop.merged run stop.merge is count in
        none_next run stop.actor stop.entry whole (subst (λ r. IsNextOf logs r stop.actor stop.entry) same stop.next)
  ]

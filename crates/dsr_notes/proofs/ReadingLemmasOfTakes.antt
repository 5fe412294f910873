-- What is kept for a slot after the take that closes it: what was kept before, and then what is kept of the chains that were taken.
use Rattle.std.proofs.Common.{◌≡◌, ◌≢◌, ℕ, zero, suc, ◌+◌, ◌<◌, ◌≤◌, ◌==◌, Bool, true, false, List, [], ◌∷◌, ◌++◌, length, Some, None, if◌then◌else◌, inl, inr, refl, ap, ap₂, sym, ◌∙◌, subst, append_assoc, arith}
use Rattle.std.specs.Prelude.{slice_get}
use Rattle.std.proofs.lemmas.Bool.{cases_lt, false_from_ne_true}
use Rattle.std.proofs.lemmas.Bool.Decides.{nat_tests, Decides-eqb}
use Rattle.std.proofs.lemmas.List.{append-nil}
use Rattle.std.proofs.lemmas.List.Sums.{fold-append}
use Rattle.dsr_names.specs.Shape.{Shape}
use Rattle.dsr_names.specs.declared.actor.Actor.TheVariants.{Replica}
use Rattle.dsr_rotation.specs.Calendar.{first_round, last_round, closed_slots}
use Rattle.dsr_chain.specs.Chain.{Chain}
use Rattle.dsr_slot.specs.Broadcast.{from_each}
use Rattle.dsr_slot.specs.Keeping.{keep_one, keep}
use Rattle.dsr_envelope.specs.Envelope.{chains_for}
use Rattle.dsr_envelope.specs.Log.{taken_from, due}
use Rattle.dsr_envelope.specs.declared.due.Due.{Due}
use Rattle.dsr_envelope.specs.declared.due.Due.TheVariants.{Post as PostTo, Take as TakeFrom}
use Rattle.dsr_envelope.specs.declared.entry.Entry.{Entry}
use Rattle.dsr_envelope.specs.declared.entry.Entry.TheVariants.{Take}
use Rattle.dsr_envelope.specs.declared.envelope.Envelope.{Envelope}
use Rattle.dsr_replica.specs.Counts.{IsInside, takes_at, HasCounts}
use Rattle.dsr_replica.specs.Decided.{chains_of, sent, read_in, slot_kept}
use Rattle.dsr_replica.proofs.Lemmas.{HasTaken, kept_same}
use Rattle.dsr_notes.specs.Closing.{closes}
use Rattle.dsr_notes.specs.declared.note.Note.{Note}

-- ---- lists of lists

-- the lists of the first posters are the same if each of them is
each_same : (n : ℕ) (given other : ℕ → List Chain) → ((p : ℕ) → p < n → given p ≡ other p) → from_each n given ≡ from_each n other
each_same zero given other same = refl
each_same (suc n) given other same =
    ap₂ (λ xs ys. xs ++ ys) (each_same n given other (λ p inside. same p (omega (arith, inside)))) (same n (omega arith))

-- one of the posters gave chains, and no poster from it on gave any before: they are at the end
one_more_each : (n p : ℕ) (given later : ℕ → List Chain) (chains : List Chain) → p < n
    → ((q : ℕ) → q ≢ p → q < n → later q ≡ given q) → later p ≡ chains → ((q : ℕ) → p ≤ q → q < n → given q ≡ [])
    → from_each n later ≡ from_each n given ++ chains
one_more_each zero p given later chains inside same is none = absurd (omega (arith, inside))
one_more_each (suc n) p given later chains inside same is none =
    let from : (p ≤ n) → from_each n given ++ chains ≡ (from_each n given ++ given n) ++ chains =
    λ h. ap (λ xs. xs ++ chains) (sym (append-nil (from_each n given)) ∙ ap (λ ys. from_each n given ++ ys) (sym (none n h (omega arith)))) in
    elim (cases_lt p n) [
      | inl below ↦
          ap₂ (λ xs ys. xs ++ ys)
          (one_more_each n p given later chains below (λ q other within. same q other (omega (arith, within))) is (λ q after within. none q after (omega (arith, within))))
          (same n (λ e. omega (arith, below, e)) (omega arith) ∙ none n (omega (arith, below)) (omega arith))
          ∙ (append-nil (from_each n given ++ chains) ∙ from (omega (arith, below)))
      | inr above ↦
          let last : n ≡ p = omega (arith, above, inside) in
          ap₂ (λ xs ys. xs ++ ys) (each_same n later given (λ q within. same q (λ e. omega (arith, within, last, e)) (omega (arith, within)))) (ap later last ∙ is)
          ∙ from (omega (arith, last))
    ]

get_past : {A : Type 0} (xs : List A) (place : ℕ) → length xs ≤ place → slice_get xs place ≡ None
get_past [] place past = refl
get_past (x ∷ xs) zero past = absurd (omega (arith, past))
get_past (x ∷ xs) (suc place) past = get_past xs place (omega (arith, past))

get_last : {A : Type 0} (xs : List A) (x : A) → slice_get (xs ++ x ∷ []) (length xs) ≡ Some x
get_last [] x = refl
get_last (y ∷ xs) x = get_last xs x

-- ---- counts

some_taken : (d : Due) (t p : ℕ) → t ≤ takes_at d t p
some_taken (PostTo k) t p = omega arith
some_taken (TakeFrom k) t p = grind (arith, nat_tests)

not_yet : (k t p : ℕ) → k ≤ p → takes_at (TakeFrom k) t p ≡ t
not_yet k t p after = grind (arith, nat_tests)

module _ (shape : Shape) (log : List Entry) (t : ℕ) (counts : HasCounts shape log t) where
  -- all envelopes of the closed rounds are taken
  taken_all : HasTaken shape log t
  taken_all p inside =
      let count = counts.takes p inside in
      let some = some_taken (due shape log) t p in
      omega (arith, count, some)

  -- the poster of a take that is due is a replica of the shape
  due_inside : (p : ℕ) → due shape log ≡ TakeFrom p → p < shape.n
  due_inside p is = subst (IsInside shape.n) is counts.inside

  none_sent : (p : ℕ) → length (taken_from (Replica p) log) ≤ t → sent log t p ≡ []
  none_sent p past = ap (chains_of t) (get_past (taken_from (Replica p) log) t past)

  -- a take puts its chains behind what was read in the round
  read_more : (p : ℕ) (envelope : Envelope) → due shape log ≡ TakeFrom p
      → read_in shape (Take (Replica p) envelope ∷ log) t ≡ read_in shape log t ++ chains_for t envelope
  read_more p envelope is =
      let inside = due_inside p is in
      let at : (q : ℕ) → Bool → List Chain = λ q b. chains_of t (slice_get (if b then taken_from (Replica q) log ++ envelope ∷ [] else taken_from (Replica q) log) t) in
      let count : (q : ℕ) → p ≤ q → q < shape.n → length (taken_from (Replica q) log) ≡ t =
      λ q after within. counts.takes q within ∙ (ap (λ d. takes_at d t q) is ∙ not_yet p t q after) in
      let other : (q : ℕ) → q ≢ p → q < shape.n → sent (Take (Replica p) envelope ∷ log) t q ≡ sent log t q =
      λ q differs within. ap (at q) (false_from_ne_true (p == q) (λ e. differs (sym ((Decides-eqb p q).0 e)))) in
      let own : sent (Take (Replica p) envelope ∷ log) t p ≡ chains_for t envelope =
      ap (at p) ((Decides-eqb p p).1 refl)
      ∙ ap (chains_of t) (ap (slice_get (taken_from (Replica p) log ++ envelope ∷ [])) (sym (count p (omega arith) inside)) ∙ get_last (taken_from (Replica p) log) envelope) in
      one_more_each shape.n p (sent log t) (sent (Take (Replica p) envelope ∷ log) t) (chains_for t envelope) inside other own
      (λ q after within. let here = count q after within in none_sent q (omega (arith, here)))

  -- what is kept for a slot once the chains of its last round are taken from this replica too
  kept_more : (p : ℕ) (envelope : Envelope) → due shape log ≡ TakeFrom p → (slot : ℕ) → last_round shape slot ≡ t
      → slot_kept shape (Take (Replica p) envelope ∷ log) slot (suc shape.f)
      ≡ keep shape slot (suc shape.f) (slot_kept shape log slot (suc shape.f)) (chains_for t envelope)
  kept_more p envelope is slot here =
      let entry = Take (Replica p) envelope in
      let round = first_round shape slot + shape.f in
      let chains = chains_for t envelope in
      let before = slot_kept shape log slot shape.f in
      let same : slot_kept shape (entry ∷ log) slot shape.f ≡ before = kept_same shape entry log t slot shape.f taken_all (omega (arith, here)) in
      let read : read_in shape (entry ∷ log) round ≡ read_in shape log round ++ chains =
      ap (read_in shape (entry ∷ log)) here ∙ (read_more p envelope is ∙ ap (λ r. read_in shape log r ++ chains) (sym here)) in
      ap₂ (λ kept xs. keep shape slot (suc shape.f) kept xs) same read
      ∙ fold-append (keep_one shape slot (suc shape.f)) before (read_in shape log round) chains

  -- and so for the slot that closes with the round, after its last take
  pub closing_more : (p : ℕ) (envelope : Envelope) → due shape log ≡ TakeFrom p → closes shape t ≡ true
      → keep shape (closed_slots shape t) (suc shape.f) (slot_kept shape log (closed_slots shape t) (suc shape.f)) (chains_for t envelope)
      ≡ slot_kept shape (Take (Replica p) envelope ∷ log) (closed_slots shape t) (suc shape.f)
  closing_more p envelope is closing =
      sym (kept_more p envelope is (closed_slots shape t) ((Decides-eqb (last_round shape (closed_slots shape t)) t).0 closing))

-- ---- notes

-- what a slot that closes adds to the notes
pub if_closing : (c : Bool) (notes other : List Note) → (c ≡ true → notes ≡ other) → (if c then notes else []) ≡ (if c then other else [])
if_closing true notes other same = same refl
if_closing false notes other same = refl

-- the notes after each of the three calls, joined
pub joined : (old one two three silence fates kept other : List Note) → one ≡ old ++ silence → two ≡ one ++ fates → three ≡ two ++ kept → kept ≡ other
    → three ≡ old ++ ((silence ++ fates) ++ other)
joined old one two three silence fates kept other first second third same =
    third
    ∙ (ap₂ (λ xs ys. xs ++ ys) (second ∙ (ap (λ xs. xs ++ fates) first ∙ append_assoc old silence fates)) same
    ∙ append_assoc old (silence ++ fates) other)

-- What the slots in flight have read, over plain variables: a take puts its chains behind what was read in the round, and past
-- the end of the takes nothing was sent.
use Rattle.std.proofs.Common.{◌≡◌, ℕ, zero, suc, ◌+◌, ◌<◌, ◌≤◌, ◌==◌, Bool, List, [], ◌∷◌, ◌++◌, length, None, if◌then◌else◌, inl, inr, refl, ap, ap₂, sym, ◌∙◌, arith}
use Rattle.std.specs.Prelude.{◌≢◌, slice_get}
use Rattle.std.proofs.lemmas.Bool.{cases_lt, false_from_ne_true}
use Rattle.std.proofs.lemmas.Bool.Decides.{nat_tests, Decides-eqb}
use Rattle.std.proofs.lemmas.List.{append-nil}
use Rattle.std.proofs.lemmas.List.Sums.{fold-append}
use Rattle.dsr_names.specs.Shape.{Shape}
use Rattle.dsr_names.specs.declared.actor.Actor.TheVariants.{Replica}
use Rattle.dsr_rotation.specs.Calendar.{first_round}
use Rattle.dsr_rotation.proofs.Lemmas.{begins_at}
use Rattle.dsr_chain.specs.Chain.{Chain}
use Rattle.dsr_slot.specs.Broadcast.{from_each}
use Rattle.dsr_slot.specs.Keeping.{keep_one, keep}
use Rattle.dsr_slot.specs.SlotState.{SlotState, HasRead, opened, with_closed}
use Rattle.dsr_envelope.specs.declared.envelope.Envelope.{Envelope}
use Rattle.dsr_envelope.specs.declared.entry.Entry.{Entry}
use Rattle.dsr_envelope.specs.declared.entry.Entry.TheVariants.{Take}
use Rattle.dsr_envelope.specs.declared.due.Due.{Due}
use Rattle.dsr_envelope.specs.declared.due.Due.TheVariants.{Post as PostTo, Take as TakeFrom}
use Rattle.dsr_replica.specs.Counts.{takes_at, HasCounts}
use Rattle.dsr_replica.specs.Decided.{chains_of, sent, read_in, slot_read, slot_kept}
use Rattle.dsr_envelope.specs.Envelope.{chains_for}
use Rattle.dsr_envelope.specs.Log.{taken_from, due}
use Rattle.dsr_replica.specs.Support.Flights.{with_chains}
use Rattle.dsr_replica.proofs.Growing.{HasTaken, kept_same}
use Rattle.dsr_replica.proofs.Joining.{each_same, get_last}

-- ---- lists of lists

-- one of the posters gave chains, and no poster from it on gave any before: they are at the end
one_more_each : (n p : ℕ) (given later : ℕ → List Chain) (chains : List Chain) → p < n
    → ((q : ℕ) → q ≢ p → q < n → later q ≡ given q) → later p ≡ chains → ((q : ℕ) → p ≤ q → q < n → given q ≡ [])
    → from_each n later ≡ from_each n given ++ chains
one_more_each zero p given later chains inside same is none = absurd (omega (arith, inside))
one_more_each (suc n) p given later chains inside same is none =
    let from : (p ≤ n) → from_each n given ++ chains ≡ (from_each n given ++ given n) ++ chains =
    λ h. ap (λ xs. xs ++ chains) (sym (append-nil (from_each n given)) ∙ ap (λ ys. from_each n given ++ ys) (sym (none n h (omega arith)))) in
    elim (cases_lt p n) [
      | inl below ↦
          ap₂ (λ xs ys. xs ++ ys)
          (one_more_each n p given later chains below (λ q other within. same q other (omega (arith, within))) is (λ q after within. none q after (omega (arith, within))))
          (same n (λ e. omega (arith, below, e)) (omega arith) ∙ none n (omega (arith, below)) (omega arith))
          ∙ (append-nil (from_each n given ++ chains) ∙ from (omega (arith, below)))
      | inr above ↦
          let last : n ≡ p = omega (arith, above, inside) in
          ap₂ (λ xs ys. xs ++ ys) (each_same n later given (λ q within. same q (λ e. omega (arith, within, last, e)) (omega (arith, within)))) (ap later last ∙ is)
          ∙ from (omega (arith, last))
    ]

pub each_none : (n : ℕ) (given : ℕ → List Chain) → ((q : ℕ) → q < n → given q ≡ []) → from_each n given ≡ []
each_none zero given none = refl
each_none (suc n) given none = ap₂ (λ xs ys. xs ++ ys) (each_none n given (λ q within. none q (omega (arith, within)))) (none n (omega arith))

get_past : {A : Type 0} (xs : List A) (place : ℕ) → length xs ≤ place → slice_get xs place ≡ None
get_past [] place past = refl
get_past (x ∷ xs) zero past = absurd (omega (arith, past))
get_past (x ∷ xs) (suc place) past = get_past xs place (omega (arith, past))

-- ---- counts

some_taken : (d : Due) (t p : ℕ) → t ≤ takes_at d t p
some_taken (PostTo k) t p = omega arith
some_taken (TakeFrom k) t p = grind (arith, nat_tests)

-- all envelopes of the closed rounds are taken
pub taken_all : (shape : Shape) (log : List Entry) (t : ℕ) → HasCounts shape log t → HasTaken shape log t
taken_all shape log t counts p inside =
    let count = counts.takes p inside in
    let some = some_taken (due shape log) t p in
    omega (arith, count, some)

pub not_yet : (k t p : ℕ) → k ≤ p → takes_at (TakeFrom k) t p ≡ t
not_yet k t p after = grind (arith, nat_tests)

-- ---- what was sent

none_sent : (log : List Entry) (t p : ℕ) → length (taken_from (Replica p) log) ≤ t → sent log t p ≡ []
none_sent log t p past = ap (chains_of t) (get_past (taken_from (Replica p) log) t past)

pub none_read : (shape : Shape) (log : List Entry) (t : ℕ) → ((p : ℕ) → p < shape.n → length (taken_from (Replica p) log) ≤ t) → read_in shape log t ≡ []
none_read shape log t past = each_none shape.n (sent log t) (λ p within. none_sent log t p (past p within))

-- a take puts its chains behind what was read in the round
read_more : (shape : Shape) (log : List Entry) (t p : ℕ) (envelope : Envelope) → HasCounts shape log t → due shape log ≡ TakeFrom p → p < shape.n
    → read_in shape (Take (Replica p) envelope ∷ log) t ≡ read_in shape log t ++ chains_for t envelope
read_more shape log t p envelope counts is inside =
    let at : (q : ℕ) → Bool → List Chain = λ q b. chains_of t (slice_get (if b then taken_from (Replica q) log ++ envelope ∷ [] else taken_from (Replica q) log) t) in
    let count : (q : ℕ) → p ≤ q → q < shape.n → length (taken_from (Replica q) log) ≡ t =
    λ q after within. counts.takes q within ∙ (ap (λ d. takes_at d t q) is ∙ not_yet p t q after) in
    let other : (q : ℕ) → q ≢ p → q < shape.n → sent (Take (Replica p) envelope ∷ log) t q ≡ sent log t q =
    λ q differs within. ap (at q) (false_from_ne_true (p == q) (λ e. differs (sym ((Decides-eqb p q).0 e)))) in
    let own : sent (Take (Replica p) envelope ∷ log) t p ≡ chains_for t envelope =
    ap (at p) ((Decides-eqb p p).1 refl)
    ∙ ap (chains_of t) (ap (slice_get (taken_from (Replica p) log ++ envelope ∷ [])) (sym (count p (omega arith) inside)) ∙ get_last (taken_from (Replica p) log) envelope) in
    one_more_each shape.n p (sent log t) (sent (Take (Replica p) envelope ∷ log) t) (chains_for t envelope) inside other own
    (λ q after within. let here = count q after within in none_sent log t q (omega (arith, here)))

-- ---- what a slot has read

-- after a take
pub reads_take : (s : SlotState) (log : List Entry) (t p : ℕ) (envelope : Envelope) → HasCounts s.shape log t → due s.shape log ≡ TakeFrom p → p < s.shape.n
    → s.slot + s.closed ≡ t → HasRead s (slot_read s.shape log s.slot)
    → HasRead (with_chains (chains_for t envelope) s) (slot_read s.shape (Take (Replica p) envelope ∷ log) s.slot)
reads_take s log t p envelope counts is inside now has =
    let entry = Take (Replica p) envelope in
    let step = keep_one s.shape s.slot (suc s.closed) in
    let chains = chains_for t envelope in
    let round = first_round s.shape s.slot + s.closed in
    let here : round ≡ t = ap (λ k. k + s.closed) (begins_at s.shape s.slot) ∙ now in
    let before = slot_kept s.shape log s.slot s.closed in
    let within : round ≤ t = omega (arith, here) in
    let same : slot_kept s.shape (entry ∷ log) s.slot s.closed ≡ before = kept_same s.shape entry log t s.slot s.closed (taken_all s.shape log t counts) within in
    let read : read_in s.shape (entry ∷ log) round ≡ read_in s.shape log round ++ chains =
    ap (read_in s.shape (entry ∷ log)) here ∙ (read_more s.shape log t p envelope counts is inside ∙ ap (λ r. read_in s.shape log r ++ chains) (sym here)) in
    ap (λ kept. keep s.shape s.slot (suc s.closed) kept chains) has
    ∙ (sym (fold-append step before (read_in s.shape log round) chains)
    ∙ ap₂ (λ kept xs. keep s.shape s.slot (suc s.closed) kept xs) (sym same) (sym read))

-- after its round is closed, if all envelopes of that round and none of the next are taken
pub reads_closed : (s : SlotState) (log : List Entry) (t : ℕ) → ((p : ℕ) → p < s.shape.n → length (taken_from (Replica p) log) ≡ suc t)
    → s.slot + s.closed ≡ t → HasRead s (slot_read s.shape log s.slot) → HasRead (with_closed s) (slot_read s.shape log s.slot)
reads_closed s log t all now has =
    let begins = begins_at s.shape s.slot in
    let none : read_in s.shape log (first_round s.shape s.slot + suc s.closed) ≡ [] =
    none_read s.shape log (first_round s.shape s.slot + suc s.closed) (λ p within. let count = all p within in omega (arith, count, begins, now)) in
    has ∙ sym (ap (keep s.shape s.slot (suc (suc s.closed)) (slot_kept s.shape log s.slot (suc s.closed))) none)

-- for a slot that begins nothing was read
pub reads_opened : (shape : Shape) (log : List Entry) (slot : ℕ) → ((p : ℕ) → p < shape.n → length (taken_from (Replica p) log) ≤ slot)
    → HasRead (opened shape slot) (slot_read shape log slot)
reads_opened shape log slot few =
    let begins = begins_at shape slot in
    let none : read_in shape log (first_round shape slot + 0) ≡ [] =
    none_read shape log (first_round shape slot + 0) (λ p within. let count = few p within in omega (arith, count, begins)) in
    sym (ap (keep shape slot 1 []) none)

-- What becomes of the chains of an envelope, by the states of the slots in flight.
use Rattle.std.proofs.Common.{◌≡◌, ◌≢◌, ℕ, suc, ◌+◌, ◌-◌, ◌<◌, ◌≤◌, ◌==◌, ◌||◌, Bool, true, false, List, [], ◌∷◌, ◌++◌, length, None, Some, inl, inr, refl, ap, ap₂, sym, ◌∙◌, subst, append_assoc, arith, take, get_or, if◌then◌else◌}
use Rattle.std.specs.Prelude.{slice_get}
use Rattle.std.specs.List.{find, list_any}
use Rattle.std.proofs.lemmas.Bool.{cases_lt, false≢true}
use Rattle.std.proofs.lemmas.Bool.Decides.{nat_tests, Decides-eqb}
use Rattle.std.proofs.lemmas.List.{append-nil, length-take-le, take_more}
use Rattle.std.proofs.lemmas.List.Sums.{fold-append}
use Rattle.std.proofs.lemmas.Option.{none-some, same_Some}
use Rattle.dsr_base.specs.Member.{In, here, there}
use Rattle.dsr_names.specs.Shape.{Shape}
use Rattle.dsr_rotation.specs.Calendar.{first_round, closed_slots, IsInFlight}
use Rattle.dsr_rotation.proofs.Lemmas.{begins_at, closed_slots_count}
use Rattle.dsr_chain.specs.Chain.{Chain as AChain}
use Rattle.dsr_slot.specs.Fate.{IsFate}
use Rattle.dsr_slot.specs.Keeping.{keep, keep_one}
use Rattle.dsr_slot.specs.SlotState.{SlotState, with_chain}
use Rattle.dsr_slot.specs.declared.fate.Fate.{Fate}
use Rattle.dsr_slot.specs.declared.kept.Kept.{Kept as AKept}
use Rattle.dsr_slot.proofs.Lemmas.{skips_other_slots}
use Rattle.dsr_envelope.specs.Log.{rounds}
use Rattle.dsr_envelope.specs.declared.entry.Entry.{Entry}
use Rattle.dsr_replica.specs.Decided.{slot_kept}
use Rattle.dsr_replica.specs.Replica.{Replica, AreInFlight, StandsFor}
use Rattle.dsr_notes.specs.Closing.{closes}
use Rattle.dsr_notes.specs.Reading.{AreFates, IsChainFate, kept_with}
use Rattle.dsr_notes.specs.declared.note.ChainFate.{ChainFate}
use Rattle.dsr_notes.specs.declared.note.ChainFate.TheVariants.{Read}
use Rattle.dsr_notes.specs.declared.note.Note.{Note}
use Rattle.dsr_notes.specs.declared.note.Note.TheVariants.{Chain}

-- ---- a slot's state

-- whether a state is of this slot
abbrev pub is_state_of : ℕ → SlotState → Bool
is_state_of slot s = s.slot == slot

-- whether a chain is of this slot
abbrev pub is_chain_of : ℕ → AChain → Bool
is_chain_of slot chain = chain.slot == slot

-- what is found is there, and of this slot
pub found_in : (slot : ℕ) (states : List SlotState) (s : SlotState) → Some s ≡ find (is_state_of slot) states → In s states × (s.slot ≡ slot)
found_in slot [] s e = absurd (none-some s (sym e))
found_in slot (x ∷ more) s e = found (is_state_of slot x) refl e (found_in slot more s)
  where
    found : (b : Bool) → is_state_of slot x ≡ b → Some s ≡ (if b then Some x else find (is_state_of slot) more)
        → (Some s ≡ find (is_state_of slot) more → In s more × (s.slot ≡ slot)) → In s (x ∷ more) × (s.slot ≡ slot)
    found true is e later =
        let same = same_Some x s (sym e) in (here same, ap (λ (y : SlotState). y.slot) (sym same) ∙ (Decides-eqb x.slot slot).0 is)
    found false is e later = let rest = later e in (there rest.0, rest.1)

-- if none is found, none is of this slot
pub found_none : (slot : ℕ) (states : List SlotState) → None ≡ find (is_state_of slot) states → (s : SlotState) → In s states → s.slot ≢ slot
found_none slot [] e s h = elim h [ ]
found_none slot (x ∷ more) e s h = found (is_state_of slot x) refl e h (λ rest. found_none slot more rest s)
  where
    found : (b : Bool) → is_state_of slot x ≡ b → None ≡ (if b then Some x else find (is_state_of slot) more) → In s (x ∷ more)
        → (None ≡ find (is_state_of slot) more → In s more → s.slot ≢ slot) → s.slot ≢ slot
    found true is e h later = absurd (none-some x e)
    found false is e (here same) later = λ of. false≢true (sym is ∙ (Decides-eqb x.slot slot).1 (ap (λ (y : SlotState). y.slot) same ∙ of))
    found false is e (there h) later = later e h

-- if no chain is of the slot, reading them changes nothing
pub none_kept : (shape : Shape) (slot round : ℕ) (kept : List AKept) (chains : List AChain) → list_any (is_chain_of slot) chains ≡ false
    → keep shape slot round kept chains ≡ kept
none_kept shape slot round kept [] none = refl
none_kept shape slot round kept (x ∷ more) none =
    ap (λ k. keep shape slot round k more) (skips_other_slots shape slot round kept x (λ of. absurd (left_true (is_chain_of slot x) (list_any (is_chain_of slot) more) ((Decides-eqb x.slot slot).1 of) none)))
    ∙ none_kept shape slot round kept more (right_false (is_chain_of slot x) (list_any (is_chain_of slot) more) none)
  where
    left_true : (a b : Bool) → a ≡ true → (a || b) ≡ false → ⊥
    left_true true b is e = absurd cc
    left_true false b is e = absurd cc

    right_false : (a b : Bool) → (a || b) ≡ false → b ≡ false
    right_false true b e = absurd cc
    right_false false b e = e

-- one more chain is read
pub keep_more : (shape : Shape) (slot round : ℕ) (kept : List AKept) (chains : List AChain) (chain : AChain)
    → keep shape slot round kept (chains ++ chain ∷ []) ≡ keep_one shape slot round (keep shape slot round kept chains) chain
keep_more shape slot round kept chains chain = fold-append (keep_one shape slot round) kept chains (chain ∷ [])

-- this state once these chains are read
abbrev pub after_chains : SlotState → List AChain → SlotState
after_chains s chains = record s { kept = keep s.shape s.slot (suc s.closed) s.kept chains }

-- and once the next one is read too
pub next_read : (s after : SlotState) (chains : List AChain) (i : ℕ) (chain : AChain) → after ≡ after_chains s (take i chains) → i < length chains
    → chain ≡ get_or chains i chain → with_chain after chain ≡ after_chains s (take (i + 1) chains)
next_read s after chains i chain so_far inside is =
    ap (λ a. with_chain a chain) so_far
    ∙ (ap (λ kept. record s { kept = kept }) (sym (keep_more s.shape s.slot (suc s.closed) s.kept (take i chains) chain))
    ∙ ap (after_chains s) (sym (take_more chains i chain inside ∙ ap (λ x. take i chains ++ x ∷ []) (sym is))))

-- a chain of another slot changes nothing
pub next_skipped : (s after : SlotState) (chains : List AChain) (i : ℕ) (chain : AChain) → after ≡ after_chains s (take i chains) → i < length chains
    → chain ≡ get_or chains i chain → chain.slot ≢ s.slot → after ≡ after_chains s (take (i + 1) chains)
next_skipped s after chains i chain so_far inside is other =
    so_far
    ∙ (ap (λ kept. record s { kept = kept })
    (sym (skips_other_slots s.shape s.slot (suc s.closed) (keep s.shape s.slot (suc s.closed) s.kept (take i chains)) chain other))
    ∙ (sym (ap (λ a. with_chain a chain) so_far) ∙ next_read s after chains i chain so_far inside is))

-- ---- slots in flight

not_equal : (a b : ℕ) → a ≢ b → (a == b) ≡ false
not_equal a b apart = grind (arith, nat_tests)

equally : (a b c d : ℕ) → (a ≡ b → c ≡ d) → (c ≡ d → a ≡ b) → (a == b) ≡ (c == d)
equally a b c d forth back = grind (arith, nat_tests)

module _ (shape : Shape) (round : ℕ) where
  -- a slot in flight has this shape, and the round in progress is the one after its closed ones
  pub flight_is : (states : List SlotState) (first : ℕ) → AreInFlight shape round states first → (s : SlotState) → In s states
      → (s.shape ≡ shape) × (s.slot + s.closed ≡ round) × (first ≤ s.slot)
  flight_is [] first are s h = elim h [ ]
  flight_is (x ∷ more) first are s (here e) =
      subst (λ (y : SlotState). (y.shape ≡ shape) × (y.slot + y.closed ≡ round) × (first ≤ y.slot)) e
      (are.0, (ap (λ k. k + x.closed) are.1 ∙ are.2), omega (arith, are.1))
  flight_is (x ∷ more) first are s (there h) =
      let later = flight_is more (suc first) are.3 s h in (later.0, later.1, omega (arith, later.2))

  -- each slot from the first one on that has begun is in flight
  pub flight_has : (states : List SlotState) (first slot : ℕ) → AreInFlight shape round states first → first ≤ slot → slot ≤ round
      → (s : SlotState) × In s states × (s.slot ≡ slot)
  flight_has [] first slot are from begun = absurd (omega (arith, are, from, begun))
  flight_has (x ∷ more) first slot are from begun = elim (cases_lt first slot) [
    | inl after ↦ let later = flight_has more (suc first) slot are.3 (omega (arith, after)) begun in (later.0, there later.1, later.2)
    | inr not_after ↦ (x, here refl, omega (arith, are.1, from, not_after))
  ]

  -- one more of its rounds can be closed
  pub open_round : (states : List SlotState) → AreInFlight shape round states (closed_slots shape round) → (s : SlotState) → In s states
      → s.closed ≤ s.shape.f
  open_round states are s h =
      let is = flight_is states (closed_slots shape round) are s h in
      let count = closed_slots_count shape round in
      let same : shape.f ≡ s.shape.f = ap (λ (z : Shape). z.f) (sym is.0) in
      omega (arith, is.1, is.2, count, same)

  -- the first of them is the oldest slot that is not closed
  pub flight_first : (states : List SlotState) (first : ℕ) → AreInFlight shape round states first → (s : SlotState) → Some s ≡ slice_get states 0
      → In s states × (s.slot ≡ first)
  flight_first [] first are s e = absurd (none-some s (sym e))
  flight_first (x ∷ more) first are s e =
      let same = same_Some x s (sym e) in (here same, ap (λ (y : SlotState). y.slot) (sym same) ∙ are.1)

  -- no slot closes if none is in flight
  pub flight_none : (states : List SlotState) → AreInFlight shape round states (closed_slots shape round) → None ≡ slice_get states 0
      → closes shape round ≡ false
  flight_none [] are e =
      let begins = begins_at shape (closed_slots shape round) in
      let past : first_round shape (closed_slots shape round) + shape.f ≢ round = omega (arith, begins, are) in
      not_equal (first_round shape (closed_slots shape round) + shape.f) round past
  flight_none (x ∷ more) are e = absurd (none-some x e)

  -- whether the oldest slot closes with the round
  pub flight_closes : (states : List SlotState) → AreInFlight shape round states (closed_slots shape round) → (s : SlotState) → In s states
      → s.slot ≡ closed_slots shape round → closes shape round ≡ (s.closed == s.shape.f)
  flight_closes states are s h oldest =
      let is = flight_is states (closed_slots shape round) are s h in
      let begins = begins_at shape (closed_slots shape round) in
      let same : shape.f ≡ s.shape.f = ap (λ (z : Shape). z.f) (sym is.0) in
      equally (first_round shape (closed_slots shape round) + shape.f) round s.closed s.shape.f
      (λ e. omega (arith, begins, is.1, oldest, same, e)) (λ e. omega (arith, begins, is.1, oldest, same, e))

module _ (r : Replica) (log : List Entry) (stands : StandsFor r log) (now : r.round ≡ rounds r.shape log)
    (are : AreInFlight r.shape r.round r.slots (closed_slots r.shape r.round)) where
  shape_of : (s : SlotState) → In s r.slots → s.shape ≡ r.shape
  shape_of s h = (flight_is r.shape r.round r.slots (closed_slots r.shape r.round) are s h).0

  closed_of : (s : SlotState) → In s r.slots → rounds r.shape log - first_round r.shape s.slot ≡ s.closed
  closed_of s h =
      let is = (flight_is r.shape r.round r.slots (closed_slots r.shape r.round) are s h).1 in
      let begins = begins_at r.shape s.slot in
      omega (arith, is, begins, now)

  -- what a slot in flight keeps once these chains are read too
  pub kept_is : (s : SlotState) → In s r.slots → (chains : List AChain)
      → keep s.shape s.slot (suc s.closed) s.kept chains ≡ kept_with r.shape log s.slot chains
  kept_is s h chains =
      let has : s.kept ≡ slot_kept r.shape log s.slot (suc s.closed) =
      subst (λ z. s.kept ≡ slot_kept z log s.slot (suc s.closed)) (shape_of s h) (stands.read s h) in
      ap₂ (λ z kept. keep z s.slot (suc s.closed) kept chains) (shape_of s h) has
      ∙ ap (λ k. keep r.shape s.slot (suc k) (slot_kept r.shape log s.slot (suc k)) chains) (sym (closed_of s h))

  -- the fate of a chain of a slot in flight
  pub fate_read : (s : SlotState) → In s r.slots → (before : List AChain) (chain : AChain) → s.slot ≡ chain.slot → (fate : Fate)
      → IsFate s.shape s.slot (suc s.closed) (keep s.shape s.slot (suc s.closed) s.kept before) chain fate
      → IsChainFate r.shape log before chain (Read (suc s.closed) fate)
  fate_read s h before chain of fate is =
      let flight = flight_is r.shape r.round r.slots (closed_slots r.shape r.round) are s h in
      let begins = begins_at r.shape chain.slot in
      let within = open_round r.shape r.round r.slots are s h in
      let same : r.shape.f ≡ s.shape.f = ap (λ (z : Shape). z.f) (sym flight.0) in (
        record { from_one = omega arith; to_last = omega (arith, within, same); counted = omega (arith, flight.1, begins, now, of) },
        subst (λ slot. IsFate r.shape slot (suc s.closed) (kept_with r.shape log slot before) chain fate) of
            (subst (λ kept. IsFate r.shape s.slot (suc s.closed) kept chain fate) (kept_is s h before)
            (subst (λ z. IsFate z s.slot (suc s.closed) (keep s.shape s.slot (suc s.closed) s.kept before) chain fate) (shape_of s h) is)),
      )

  -- the slot of a chain is not in flight if no state is of it
  pub fate_unread : (slot : ℕ) → ((s : SlotState) → In s r.slots → s.slot ≢ slot) → ¬ IsInFlight r.shape slot (rounds r.shape log)
  fate_unread slot none flying =
      let count = closed_slots_count r.shape r.round in
      let begins = begins_at r.shape slot in
      let begun = flying.begun in
      let unfinished = flying.unfinished in
      let found = flight_has r.shape r.round r.slots (closed_slots r.shape r.round) slot are
      (omega (arith, count, begins, begun, unfinished, now)) (omega (arith, begins, begun, now)) in
      none found.0 found.1 found.2

  -- what is kept for the slot that closes, once these chains are read
  kept_closing : (s : SlotState) → In s r.slots → s.slot ≡ closed_slots r.shape r.round → closes r.shape r.round ≡ true → (chains : List AChain)
      → keep s.shape s.slot (suc s.closed) s.kept chains
      ≡ keep r.shape (closed_slots r.shape r.round) (suc r.shape.f) (slot_kept r.shape log (closed_slots r.shape r.round) (suc r.shape.f)) chains
  kept_closing s h oldest closing chains =
      let last : s.closed ≡ s.shape.f =
      (Decides-eqb s.closed s.shape.f).0 (sym (flight_closes r.shape r.round r.slots are s h oldest) ∙ closing) in
      let rest : rounds r.shape log - first_round r.shape s.slot ≡ r.shape.f = closed_of s h ∙ (last ∙ ap (λ (z : Shape). z.f) (shape_of s h)) in
      kept_is s h chains
      ∙ ap₂ (λ slot k. keep r.shape slot (suc k) (slot_kept r.shape log slot (suc k)) chains) oldest rest

  -- and what the state keeps for it then
  pub closing_kept : (s after : SlotState) (chains : List AChain) → In s r.slots → s.slot ≡ closed_slots r.shape r.round → closes r.shape r.round ≡ true
      → after ≡ after_chains s chains
      → after.kept ≡ keep r.shape (closed_slots r.shape r.round) (suc r.shape.f) (slot_kept r.shape log (closed_slots r.shape r.round) (suc r.shape.f)) chains
  closing_kept s after chains h oldest closing is = ap (λ (a : SlotState). a.kept) is ∙ kept_closing s h oldest closing chains

-- if a slot closes, the notes that depend on it are there
pub if_closes : (b : Bool) (notes : List Note) → b ≡ true → notes ≡ (if b then notes else [])
if_closes true notes is = refl
if_closes false notes is = absurd (false≢true is)

-- ---- the notes of the chains

-- the fate of one more chain
pub fates_more : (shape : Shape) (log : List Entry) (before read all : List AChain) (notes : List Note) (chain : AChain) (fate : ChainFate)
    → AreFates shape log before read notes → all ≡ before ++ read → IsChainFate shape log all chain fate
    → AreFates shape log before (read ++ chain ∷ []) (notes ++ Chain (length all) chain.slot fate ∷ [])
fates_more shape log before [] all notes chain fate are same is =
    let none : all ≡ before = same ∙ append-nil before in
    subst (λ ns. AreFates shape log before (chain ∷ []) (ns ++ Chain (length all) chain.slot fate ∷ [])) (sym are)
    ((fate, ap (λ xs. Chain (length xs) chain.slot fate) none, subst (λ xs. IsChainFate shape log xs chain fate) none is), refl)
fates_more shape log before (x ∷ read) all [] chain fate are same is = elim are [ ]
fates_more shape log before (x ∷ read) all (note ∷ notes) chain fate are same is =
    (are.0, fates_more shape log (before ++ x ∷ []) read all notes chain fate are.1 (same ∙ sym (append_assoc before (x ∷ []) read)) is)

-- the fate of the chain at the next place of an envelope
pub fates_next : (shape : Shape) (log : List Entry) (chains : List AChain) (notes : List Note) (place slot : ℕ) (chain : AChain) (fate : ChainFate)
    → AreFates shape log [] (take place chains) notes → place < length chains → chain ≡ get_or chains place chain → slot ≡ chain.slot
    → IsChainFate shape log (take place chains) chain fate
    → AreFates shape log [] (take (place + 1) chains) (notes ++ Chain place slot fate ∷ [])
fates_next shape log chains notes place slot chain fate are inside at of is =
    let count : length (take place chains) ≡ place = length-take-le place chains (omega (arith, inside)) in
    let more = fates_more shape log [] (take place chains) (take place chains) notes chain fate are refl is in
    let same : take (place + 1) chains ≡ take place chains ++ chain ∷ [] = take_more chains place chain inside ∙ ap (λ x. take place chains ++ x ∷ []) (sym at) in
    subst (λ xs. AreFates shape log [] xs (notes ++ Chain place slot fate ∷ [])) (sym same)
    (subst (λ k. AreFates shape log [] (take place chains ++ chain ∷ []) (notes ++ Chain k slot fate ∷ [])) count
    (subst (λ k. AreFates shape log [] (take place chains ++ chain ∷ []) (notes ++ Chain (length (take place chains)) k fate ∷ [])) (sym of) more))

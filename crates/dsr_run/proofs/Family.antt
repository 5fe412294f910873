-- A slot of a run as one broadcast: what each replica gave each other one in the slot's rounds.
use Rattle.std.proofs.Common.{◌≡◌, ℕ, zero, suc, ◌+◌, ◌<◌, ◌≤◌, Bool, true, false, List, [], ◌∷◌, length, Some, if◌then◌else◌, inl, inr, refl, ap, sym, ◌∙◌, subst, arith}
use Rattle.std.specs.Prelude.{slice_get}
use Rattle.std.proofs.lemmas.Bool.Decides.{nat_tests}
use Rattle.std.proofs.lemmas.List.{length_push}
use Rattle.dsr_names.specs.Shape.{Shape, is_traitor, IsLoyal, sender}
use Rattle.dsr_names.specs.declared.actor.Actor.TheVariants.{Replica}
use Rattle.dsr_rotation.specs.Calendar.{first_round}
use Rattle.dsr_rotation.proofs.Lemmas.{begins_no_earlier}
use Rattle.dsr_chain.specs.declared.slot_value.SlotValue.{SlotValue}
use Rattle.dsr_slot.specs.Broadcast.{Exchange, read_by}
use Rattle.dsr_slot.specs.Conduct.{posted}
use Rattle.dsr_slot.specs.Keeping.{kept_after}
use Rattle.dsr_envelope.specs.declared.envelope.Envelope.{Envelope}
use Rattle.dsr_envelope.specs.declared.entry.Entry.{Entry}
use Rattle.dsr_envelope.specs.declared.due.Due.{Due}
use Rattle.dsr_envelope.specs.declared.due.Due.TheVariants.{Post as PostTo, Take as TakeFrom}
use Rattle.dsr_replica.specs.Conduct.{slot_part, chains_posted, IsLoyalLog}
use Rattle.dsr_replica.specs.Counts.{posts_at}
use Rattle.dsr_replica.specs.Decided.{chains_of, sent, slot_read, slot_kept}
use Rattle.dsr_envelope.specs.Envelope.{chains_for}
use Rattle.dsr_envelope.specs.Log.{posted_to, taken_from, due, rounds}
use Rattle.dsr_replica.proofs.Lemmas.{counts, all_taken, get_grown}
use Rattle.dsr_run.specs.Run.{IsRun}
use Rattle.dsr_run.specs.Step.{Step, log_of}
use Rattle.dsr_run.proofs.Alike.{AreAlike, alike_each, alike_one, kept_alike}
use Rattle.dsr_run.proofs.Boxes.{IsBox, boxes}
use Rattle.dsr_run.proofs.Logs.{log_loyal}
use Rattle.dsr_run.proofs.Posts.{IsValue, IsOfSlot, post_of_slot, part_at, part_of_slot, for_round}

-- ---- places

pub some_at : {A : Type 0} (xs : List A) (place : ℕ) → place < length xs → (x : A) × (slice_get xs place ≡ Some x)
some_at [] place inside = absurd (omega (arith, inside))
some_at (x ∷ xs) zero inside = (x, refl)
some_at (x ∷ xs) (suc place) inside = some_at xs place (omega (arith, inside))

-- what was taken at a place was posted at that place
pub at_place : (posted taken : List Envelope) → IsBox posted taken → (place : ℕ) (x : Envelope) → slice_get taken place ≡ Some x
    → slice_get posted place ≡ Some x
at_place posted taken (inl empty) place x e = ap (λ xs. slice_get xs place) empty ∙ e
at_place posted taken (inr full) place x e = ap (λ xs. slice_get xs place) full.1 ∙ get_grown taken (full.0 ∷ []) place x e

pub at_least : (posted taken : List Envelope) → IsBox posted taken → length taken ≤ length posted
at_least posted taken (inl empty) = let same = ap length empty in omega (arith, same)
at_least posted taken (inr full) = let same = ap length full.1 in let more = length_push taken full.0 in omega (arith, same, more)

at_most : (d : Due) (t q : ℕ) → posts_at d t q ≤ suc t
at_most (PostTo k) t q = grind (arith, nat_tests)
at_most (TakeFrom k) t q = omega arith

if_is : {A : Type 0} (b c : Bool) (x y : A) → b ≡ c → (if b then x else y) ≡ (if c then x else y)
if_is b c x y e = ap (λ z. if z then x else y) e

module _ (shape : Shape) (run : List Step) (is : IsRun shape run) (slot : ℕ) where
  abbrev pub log : ℕ → List Entry
  log p = log_of run (Replica p)

  abbrev pub Loyal : ℕ → Type 0
  Loyal p = IsLoyal shape (Replica p)

  pub loyal_log : (p : ℕ) → Loyal p → IsLoyalLog shape (Replica p) (log p)
  loyal_log p loyal = log_loyal shape p loyal.1 run is

  -- what a loyal replica gives is what it posts for the slot; what a traitor gives is what was taken from it
  abbrev pub given_by : SlotValue → Exchange
  given_by value zero p q = []
  given_by value (suc r) p q =
      if is_traitor shape p then sent (log q) (first_round shape slot + r) p
      else posted shape slot (Replica p) value (suc r) (slot_kept shape (log p) slot r)

  pub loyal_gives : (value : SlotValue) (r p q : ℕ) → Loyal p
      → given_by value (suc r) p q ≡ posted shape slot (Replica p) value (suc r) (slot_kept shape (log p) slot r)
  loyal_gives value r p q loyal =
      if_is (is_traitor shape p) false (sent (log q) (first_round shape slot + r) p)
      (posted shape slot (Replica p) value (suc r) (slot_kept shape (log p) slot r)) loyal.1

  pub traitor_gives : (value : SlotValue) (r p q : ℕ) → is_traitor shape p ≡ true
      → given_by value (suc r) p q ≡ sent (log q) (first_round shape slot + r) p
  traitor_gives value r p q traitor =
      if_is (is_traitor shape p) true (sent (log q) (first_round shape slot + r) p)
      (posted shape slot (Replica p) value (suc r) (slot_kept shape (log p) slot r)) traitor

  -- ---- rounds

  some_replica : (p : ℕ) → p < shape.n → 0 < shape.n
  some_replica p inside = omega (arith, inside)

  -- in a closed round a loyal replica took an envelope from each replica
  pub took : (p : ℕ) → Loyal p → (i : ℕ) → i < shape.n → (t : ℕ) → t < rounds shape (log p)
      → (x : Envelope) × (slice_get (taken_from (Replica i) (log p)) t ≡ Some x)
  took p loyal i inside t closed =
      let all = all_taken shape (Replica p) (some_replica p loyal.0) (log p) (loyal_log p loyal) i inside in
      some_at (taken_from (Replica i) (log p)) t (omega (arith, closed, all))

  -- what was taken was posted at the same place
  pub was_posted : (i p t : ℕ) (x : Envelope) → slice_get (taken_from (Replica i) (log p)) t ≡ Some x
      → slice_get (posted_to (Replica p) (log i)) t ≡ Some x
  was_posted i p t x e =
      at_place (posted_to (Replica p) (log i)) (taken_from (Replica i) (log p)) (boxes shape run is (Replica i) (Replica p)) t x e

  -- if one loyal replica has closed a round, the others have closed all rounds before it
  pub rounds_near : (p q : ℕ) → Loyal p → Loyal q → rounds shape (log q) ≤ suc (rounds shape (log p))
  rounds_near p q loyal loyal_too =
      let all = all_taken shape (Replica q) (some_replica q loyal_too.0) (log q) (loyal_log q loyal_too) p loyal.0 in
      let box = at_least (posted_to (Replica q) (log p)) (taken_from (Replica p) (log q)) (boxes shape run is (Replica p) (Replica q)) in
      let count = (counts shape (Replica p) (some_replica p loyal.0) (log p) (loyal_log p loyal)).posts q loyal_too.0 in
      let most = at_most (due shape (log p)) (rounds shape (log p)) q in
      omega (arith, all, box, count, most)

  module _ (value : SlotValue) (its : IsValue shape (log (sender shape slot)) slot value) where
    -- a loyal replica's post is that of the slot
    pub of_slot : (p : ℕ) → Loyal p → (q : ℕ) → q < shape.n → (t : ℕ) (x : Envelope) → slice_get (posted_to (Replica q) (log p)) t ≡ Some x
        → IsOfSlot shape (Replica p) (log p) slot value t x
    of_slot p loyal q inside t x e = post_of_slot shape log loyal_log slot value its p loyal q inside t x e

    -- ---- what is read

    -- from what was taken from a loyal replica the same is kept as from what it gave
    loyal_alike : (p : ℕ) → Loyal p → (i : ℕ) → Loyal i → (r : ℕ) → r ≤ shape.f → first_round shape slot + r < rounds shape (log p)
        → AreAlike shape slot (suc r) (sent (log p) (first_round shape slot + r) i) (given_by value (suc r) i p)
    loyal_alike p loyal i loyal_too r within closed kept =
        let t = first_round shape slot + r in
        let x = took p loyal i loyal_too.0 t closed in
        let h = of_slot i loyal_too p loyal.0 t x.0 (was_posted i p t x.0 x.1) in
        let chains : sent (log p) t i ≡ chains_posted shape (Replica i) (log i) t h.made_for =
        ap (chains_of t) x.1 ∙ (ap (chains_for t) h.is ∙ for_round t (chains_posted shape (Replica i) (log i) t h.made_for)) in
        let part : slot_part shape (Replica i) (log i) t h.made_for slot ≡ given_by value (suc r) i p =
        h.part ∙ (part_at shape (Replica i) (log i) slot value r within ∙ sym (loyal_gives value r i p loyal_too)) in
        subst (λ xs. AreAlike shape slot (suc r) xs (given_by value (suc r) i p)) (sym chains)
        (subst (AreAlike shape slot (suc r) (chains_posted shape (Replica i) (log i) t h.made_for)) part
        (alike_one shape slot (suc r) (suc t) (slot_part shape (Replica i) (log i) t h.made_for) (begun r)
        (part_of_slot shape i loyal_too.0 (log i) t h.made_for h.asked))) kept
      where
        begun : (r : ℕ) → slot < suc (first_round shape slot + r)
        begun r = let low = begins_no_earlier shape slot in omega (arith, low)

    sent_alike : (p : ℕ) → Loyal p → (i : ℕ) → i < shape.n → (r : ℕ) → r ≤ shape.f → first_round shape slot + r < rounds shape (log p)
        → AreAlike shape slot (suc r) (sent (log p) (first_round shape slot + r) i) (given_by value (suc r) i p)
    sent_alike p loyal i inside r within closed = by_poster (is_traitor shape i) refl
      where
        by_poster : (b : Bool) → is_traitor shape i ≡ b
            → AreAlike shape slot (suc r) (sent (log p) (first_round shape slot + r) i) (given_by value (suc r) i p)
        by_poster true traitor =
            subst (AreAlike shape slot (suc r) (sent (log p) (first_round shape slot + r) i)) (sym (traitor_gives value r i p traitor)) (λ kept. refl)
        by_poster false poster = loyal_alike p loyal i (inside, poster) r within closed

    -- what a loyal replica keeps is what it keeps from what it was given
    pub kept_is : (p : ℕ) → Loyal p → (r : ℕ) → r ≤ suc shape.f → first_round shape slot + r ≤ rounds shape (log p)
        → slot_kept shape (log p) slot r ≡ kept_after shape slot (read_by shape (given_by value) p) r
    kept_is p loyal r within closed =
        kept_alike shape slot (slot_read shape (log p) slot) (read_by shape (given_by value) p) r
        (λ j before. alike_each shape slot (suc j) shape.n (sent (log p) (first_round shape slot + j)) (λ i. given_by value (suc j) i p)
        (λ i inside. sent_alike p loyal i inside j (omega (arith, before, within)) (omega (arith, before, closed))))

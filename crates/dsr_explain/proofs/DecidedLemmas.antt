-- What a replica's list of decisions has of a slot.
use Rattle.std.proofs.Common.{◌≡◌, ℕ, zero, suc, ◌<◌, ◌≤◌, nat_lt, true, false, List, [], ◌∷◌, ◌++◌, length, reverse, None, Some, inl, inr, refl, ap, sym, ◌∙◌, arith}
use Rattle.std.specs.Prelude.{slice_get}
use Rattle.std.proofs.lemmas.Bool.Decides.{nat_tests}
use Rattle.std.proofs.lemmas.Bool.{cases_lt}
use Rattle.std.proofs.lemmas.List.{length-reverse, reverse-append}
use Rattle.std.proofs.lemmas.Option.{none-some, slice_get_past}
use Rattle.dsr_names.specs.Shape.{Shape, is_traitor}
use Rattle.dsr_names.specs.declared.actor.Actor.TheVariants.{Replica}
use Rattle.dsr_rotation.specs.Calendar.{closed_slots}
use Rattle.dsr_chain.specs.Content.{content}
use Rattle.dsr_chain.specs.declared.slot_value.SlotValue.{SlotValue}
use Rattle.dsr_envelope.specs.Log.{rounds}
use Rattle.dsr_replica.specs.Decided.{slot_decided, values}
use Rattle.dsr_run.specs.History.{decided_at}
use Rattle.dsr_run.specs.Step.{Logs}
use Rattle.dsr_explain.specs.Lines.{decided_content}

module _ {A : Type 0} where
  get_first : (xs ys : List A) (place : ℕ) → place < length xs → slice_get (xs ++ ys) place ≡ slice_get xs place
  get_first [] ys place inside = absurd (omega (arith, inside))
  get_first (x ∷ xs) ys zero inside = refl
  get_first (x ∷ xs) ys (suc place) inside = get_first xs ys place (omega (arith, inside))

  get_end : (xs : List A) (x : A) (place : ℕ) → place ≡ length xs → slice_get (xs ++ x ∷ []) place ≡ Some x
  get_end [] x place at = let first : place ≡ 0 = at in rw first refl
  get_end (y ∷ xs) x zero at = absurd (omega (arith, at))
  get_end (y ∷ xs) x (suc place) at = get_end xs x place (omega (arith, at))

length_values : (of : ℕ → SlotValue) (count : ℕ) → length (values of count) ≡ count
length_values of zero = refl
length_values of (suc count) = ap suc (length_values of count)

get_value : (of : ℕ → SlotValue) (count slot : ℕ) → slot < count → slice_get (reverse (values of count)) slot ≡ Some (of slot)
get_value of zero slot inside = absurd (omega (arith, inside))
get_value of (suc count) slot inside =
    let size : length (reverse (values of count)) ≡ count = length-reverse (values of count) ∙ length_values of count in
    let parts = reverse-append (of count ∷ []) (values of count) in
    elim (cases_lt slot count) [
      | inl below ↦ ap (λ xs. slice_get xs slot) parts
          ∙ (get_first (reverse (values of count)) (of count ∷ []) slot (omega (arith, below, size)) ∙ get_value of count slot below)
      | inr past ↦
          let last : slot ≡ count = omega (arith, inside, past) in
          ap (λ xs. slice_get xs slot) parts
          ∙ (get_end (reverse (values of count)) (of count) slot (omega (arith, last, size)) ∙ ap (λ k. Some (of k)) (sym last))
    ]

no_value : (of : ℕ → SlotValue) (count slot : ℕ) → count ≤ slot → slice_get (reverse (values of count)) slot ≡ None
no_value of count slot past =
    slice_get_past (reverse (values of count)) slot (omega (arith, past, length-reverse (values of count), length_values of count))

below_is : (a b : ℕ) → a < b → nat_lt a b ≡ true
below_is a b h = grind (arith, nat_tests)

not_below : (a b : ℕ) → b ≤ a → nat_lt a b ≡ false
not_below a b h = grind (arith, nat_tests)

-- a decision in a loyal replica's list is what it decided for the slot
pub in_list : (shape : Shape) (logs : Logs) (p slot : ℕ) → p < shape.n → is_traitor shape p ≡ false
    → (list : List SlotValue) → list ≡ reverse (decided_at shape logs p) → (value : SlotValue) → slice_get list slot ≡ Some value
    → content value ≡ decided_content shape logs (Replica p) slot
in_list shape logs p slot inside loyal list is value at =
    let count = closed_slots shape (rounds shape (logs (Replica p))) in
    let of = slot_decided shape (logs (Replica p)) in
    let there : slice_get (reverse (values of count)) slot ≡ Some value = ap (λ l. slice_get l slot) (sym is) ∙ at in
    elim (cases_lt slot count) [
      | inl below ↦
          let both : Some value ≡ Some (of slot) = sym there ∙ get_value of count slot below in
          let same : value ≡ of slot = cc in
          ap content same ∙ rw (below_is p shape.n inside, loyal, below_is slot count below) refl
      | inr past ↦ absurd (none-some value (sym (no_value of count slot past) ∙ there))
    ]

-- if the list has none, it has not closed the slot
pub not_in_list : (shape : Shape) (logs : Logs) (p slot : ℕ) → p < shape.n → is_traitor shape p ≡ false
    → (list : List SlotValue) → list ≡ reverse (decided_at shape logs p) → length list ≤ slot → None ≡ decided_content shape logs (Replica p) slot
not_in_list shape logs p slot inside loyal list is past =
    let count = closed_slots shape (rounds shape (logs (Replica p))) in
    let of = slot_decided shape (logs (Replica p)) in
    let size : length list ≡ count = ap length is ∙ (length-reverse (values of count) ∙ length_values of count) in
    rw (below_is p shape.n inside, loyal, not_below slot count (omega (arith, past, size))) refl

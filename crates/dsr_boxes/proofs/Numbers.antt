-- The places of boxes: each pair of actors has a slot of its own. And the log of the highest place is the last one.
use Rattle.std.proofs.Common.{◌≡◌, ◌≢◌, ℕ, zero, suc, ◌+◌, ◌*◌, ◌<◌, ◌≤◌, List, [], ◌∷◌, ◌++◌, length, ◌⊎◌, inl, inr, refl, ap, sym, ◌∙◌, arith, mul-le-mul_right, suc-mul}
use Rattle.std.specs.Prelude.{reverse, replicate, slice_index_or}
use Rattle.std.proofs.lemmas.List.{length-reverse, reverse-append, get_or_append_left, length-replicate}
use Rattle.std.proofs.Math.Seq.{get_or-append_seam}
use Rattle.dsr_names.proofs.PlaceLemmas.{place_below, same_place}
use Rattle.dsr_names.specs.Places.{size, place_of}
use Rattle.dsr_names.specs.Shape.{Shape, IsActor}
use Rattle.dsr_names.specs.declared.actor.Actor.{Actor}
use Rattle.dsr_names.specs.Support.ActorEquality.{actor_eq, actor_eq-Decides}
use Rattle.dsr_slot.proofs.Lemmas.{holds_or_not}
use Rattle.dsr_envelope.specs.declared.entry.Entry.{Entry}
use Rattle.dsr_boxes.specs.Place.{slot_of, word_of}
use Rattle.dsr_boxes.specs.Rule.{log_at}

-- ---- two numbers in one

-- a further row begins behind the whole row before it
further : (p q s : ℕ) → p < q → p * s + s ≤ q * s
further p q s less = let rows : suc p * s ≤ q * s = mul-le-mul_right s less in omega (arith, suc-mul p s)

not_further : (p q s b d : ℕ) → b < s → p < q → p * s + b ≡ q * s + d → ⊥
not_further p q s b d low less e =
    let m = further p q s less in
    let x : ℕ = p * s in let y : ℕ = q * s in
    let m' : x + s ≤ y = m in let e' : x + b ≡ y + d = e in omega arith

-- a row and a place in it make a number that no other row and place make
one_row : (p q s b d : ℕ) → b < s → d < s → p * s + b ≡ q * s + d → p ≡ q
one_row p q s b d low lower e = elim (nat_cases p q) [
  | inl same ↦ same
  | inr apart ↦ elim apart [
    | inl less ↦ absurd (not_further p q s b d low less e)
    | inr more ↦ absurd (not_further q p s d b lower more (sym e))
  ]
]
  where
    nat_cases : (p q : ℕ) → (p ≡ q) ⊎ ((p < q) ⊎ (q < p))
    nat_cases zero zero = inl refl
    nat_cases zero (suc q) = inr (inl (omega arith))
    nat_cases (suc p) zero = inr (inr (omega arith))
    nat_cases (suc p) (suc q) = elim (nat_cases p q) [
      | inl same ↦ inl (ap suc same)
      | inr apart ↦ elim apart [
        | inl less ↦ inr (inl (omega arith))
        | inr more ↦ inr (inr (omega arith))
      ]
    ]

one_place : (p q s b d : ℕ) → p ≡ q → p * s + b ≡ q * s + d → b ≡ d
one_place p q s b d same e =
    let e' : q * s + b ≡ q * s + d = sym (ap (λ r. r * s + b) same) ∙ e in
    let x : ℕ = q * s in let e'' : x + b ≡ x + d = e' in omega arith

-- ---- boxes

pub same_or_not : (a b : Actor) → (a ≡ b) ⊎ (a ≢ b)
same_or_not a b = holds_or_not (actor_eq a b) (actor_eq-Decides a b)

module _ (shape : Shape) where
  -- each pair of actors has a slot of its own
  pub one_slot : (a b p q : Actor) → IsActor shape a → IsActor shape b → IsActor shape p → IsActor shape q
      → slot_of shape a b ≡ slot_of shape p q → (a ≡ p) × (b ≡ q)
  one_slot a b p q in_a in_b in_p in_q e =
      let row = one_row (place_of shape a) (place_of shape p) (size shape) (place_of shape b) (place_of shape q)
      (place_below shape b in_b) (place_below shape q in_q) e in (
        same_place shape a p in_a in_p row,
        same_place shape b q in_b in_q (one_place (place_of shape a) (place_of shape p) (size shape) (place_of shape b) (place_of shape q) row e),
      )

  pub one_word : (a b p q : Actor) → IsActor shape a → IsActor shape b → IsActor shape p → IsActor shape q
      → word_of shape a b ≡ word_of shape p q → (a ≡ p) × (b ≡ q)
  one_word a b p q in_a in_b in_p in_q e =
      let x : ℕ = slot_of shape a b in let y : ℕ = slot_of shape p q in let e' : 4 + x ≡ 4 + y = e in
      let same : x ≡ y = omega arith in one_slot a b p q in_a in_b in_p in_q same

  -- it is one of the slots
  pub slot_below : (a b : Actor) → IsActor shape a → IsActor shape b → slot_of shape a b < size shape * size shape
  slot_below a b in_a in_b =
      let m = further (place_of shape a) (size shape) (size shape) (place_below shape a in_a) in
      let low = place_below shape b in_b in
      let x : ℕ = place_of shape a * size shape in let y : ℕ = size shape * size shape in
      let m' : x + size shape ≤ y = m in omega (arith, low)

  pub word_below : (a b : Actor) → IsActor shape a → IsActor shape b → word_of shape a b < 4 + size shape * size shape
  word_below a b in_a in_b =
      let low = slot_below a b in_a in_b in
      let x : ℕ = slot_of shape a b in let y : ℕ = size shape * size shape in let low' : x < y = low in omega arith

  -- two pairs are one, or have two slots and two words
  pub one_or_apart : (a b p q : Actor) → IsActor shape a → IsActor shape b → IsActor shape p → IsActor shape q
      → ((a ≡ p) × (b ≡ q)) ⊎ ((slot_of shape a b ≢ slot_of shape p q) × (word_of shape a b ≢ word_of shape p q))
  one_or_apart a b p q in_a in_b in_p in_q = elim (same_or_not a p) [
    | inr apart ↦ inr (
      (λ e. apart (one_slot a b p q in_a in_b in_p in_q e).0),
      λ e. apart (one_word a b p q in_a in_b in_p in_q e).0,
    )
    | inl same ↦ elim (same_or_not b q) [
      | inr apart ↦ inr (
        (λ e. apart (one_slot a b p q in_a in_b in_p in_q e).1),
        λ e. apart (one_word a b p q in_a in_b in_p in_q e).1,
      )
      | inl equal ↦ inl (same, equal)
    ]
  ]

-- 48 actors at most have few slots
pub few_slots : (shape : Shape) → size shape ≤ 48 → size shape * size shape ≤ 2304
few_slots shape few =
    let one : size shape * size shape ≤ 48 * size shape = mul-le-mul_right (size shape) few in
    let y : ℕ = size shape * size shape in let one' : y ≤ 48 * size shape = one in omega (arith, few)

-- ---- logs by places, the highest place first

reversed : (log : List Entry) (logs : List (List Entry)) → reverse (log ∷ logs) ≡ reverse logs ++ log ∷ []
reversed log logs = reverse-append (log ∷ []) logs

module _ (shape : Shape) where
  -- the log of the highest place
  pub log_last : (log : List Entry) (logs : List (List Entry)) (a : Actor) → place_of shape a ≡ length logs → log_at shape (log ∷ logs) a ≡ log
  log_last log logs a e =
      ap (λ l. slice_index_or l (place_of shape a) []) (reversed log logs)
      ∙ (ap (λ n. slice_index_or (reverse logs ++ log ∷ []) n []) (e ∙ sym (length-reverse logs))
      ∙ get_or-append_seam (reverse logs) log [] [])

  -- a log of a lower place
  pub log_lower : (log : List Entry) (logs : List (List Entry)) (a : Actor) → place_of shape a < length logs
      → log_at shape (log ∷ logs) a ≡ log_at shape logs a
  log_lower log logs a low =
      ap (λ l. slice_index_or l (place_of shape a) []) (reversed log logs)
      ∙ get_or_append_left (reverse logs) (log ∷ []) [] (place_of shape a) (let long = length-reverse logs in omega (arith, low, long))

  -- logs that are all empty
  pub log_blank : (n : ℕ) (a : Actor) → log_at shape (replicate n []) a ≡ []
  log_blank zero a = refl
  log_blank (suc n) a = elim (place_cases (place_of shape a) n) [
    | inl e ↦ log_last [] (replicate n []) a (e ∙ sym (length-replicate n []))
    | inr other ↦ elim other [
      | inl low ↦ log_lower [] (replicate n []) a (let long = length-replicate {A = List Entry} n [] in omega (arith, low, long)) ∙ log_blank n a
      | inr high ↦ past (place_of shape a) n high
    ]
  ]
    where
      place_cases : (p n : ℕ) → (p ≡ n) ⊎ ((p < n) ⊎ (n < p))
      place_cases zero zero = inl refl
      place_cases zero (suc n) = inr (inl (omega arith))
      place_cases (suc p) zero = inr (inr (omega arith))
      place_cases (suc p) (suc n) = elim (place_cases p n) [
        | inl same ↦ inl (ap suc same)
        | inr apart ↦ elim apart [
          | inl less ↦ inr (inl (omega arith))
          | inr more ↦ inr (inr (omega arith))
        ]
      ]

      get_past : (l : List (List Entry)) (p : ℕ) → length l ≤ p → slice_index_or l p [] ≡ []
      get_past [] p high = refl
      get_past (x ∷ l) zero high = absurd (omega (arith, high))
      get_past (x ∷ l) (suc p) high = get_past l p (omega (arith, high))

      past : (p n : ℕ) → n < p → slice_index_or (reverse (replicate {A = List Entry} (suc n) [])) p [] ≡ []
      past p n high =
          get_past (reverse (replicate (suc n) [])) p
          (let long = length-reverse {A = List Entry} (replicate (suc n) []) in let all = length-replicate {A = List Entry} (suc n) [] in omega (arith, high, long, all))

-- Three forms of a set of replicas: the bits of a number, an ascending list, and a text.
use Rattle.std.proofs.Common.{◌≡◌, ◌≢◌, ℕ, zero, suc, ◌+◌, ◌*◌, ◌%◌, ◌/◌, ◌^◌, ◌<◌, ◌≤◌, Bool, true, false, cond, eqb, List, [], ◌∷◌, ◌++◌, length, sym, ◌∙◌, ap, refl, Option, None, Some, add-one, arith, lit<, lit≤, bit_and, eq-eqb, length-append, le_refl}
use Rattle.std.specs.Prelude.{All}
use Rattle.std.specs.Int.{bit_at}
use Rattle.std.specs.Int.Bits.{bit_or, or_add_and}
use Rattle.std.specs.Fmt.{decimal}
use Rattle.std.proofs.lemmas.List.{append-nil}
use Rattle.std.proofs.lemmas.List.Elements.{All-nil, All-cons, All-append}
use Rattle.std.proofs.lemmas.Bool.{eqb-true, ne_eqb, false≢true}
use Rattle.std.proofs.lemmas.Nat.{pow_pos, mod-pow-add, one_shl}
use Rattle.std.proofs.Math.Nat.{mod-eq_of_lt, mod-lt}
use Rattle.std.proofs.lemmas.Nat.Bits.{bit_at-lt, bit_at_above, and_pow, shr_and_one}
use Rattle.dsr_base.specs.Reads.{Reads}
use Rattle.dsr_base.specs.Joined.{AreUpTo}
use Rattle.dsr_base.specs.Split.{IsAbsent}
use Rattle.dsr_base.proofs.Marks.{one_cut, decimal_without_low}
use Rattle.dsr_base.proofs.ReadsLemmas.{reads_none, reads_some, not_read, was_read, only_read}
use Rattle.dsr_base.specs.Bits.{is_bit_set}
use Rattle.dsr_names.specs.Support.ReplicaSets.{bits_with}
use Rattle.dsr_names.specs.Shape.{shape_of}
use Rattle.dsr_names.specs.ShapeText.{numbers_below, replicas_of, replicas_text, shape_text}

-- ---- the numbers that pass a test

-- one whose bit is set comes next
pub next_set : (bits i : ℕ) → bit_and (bits / 2 ^ i) 1 ≡ 1 → numbers_below (is_bit_set bits) (i + 1) ≡ numbers_below (is_bit_set bits) i ++ i ∷ []
next_set bits i one =
    let set : eqb (bit_at bits i) 1 ≡ true = eq-eqb (bit_at bits i) 1 (sym (shr_and_one bits i) ∙ one) in
    rw (add-one i, set) refl

-- one whose bit is not set does not
pub next_clear : (bits i : ℕ) → bit_and (bits / 2 ^ i) 1 ≢ 1 → numbers_below (is_bit_set bits) (i + 1) ≡ numbers_below (is_bit_set bits) i
next_clear bits i other =
    let clear : eqb (bit_at bits i) 1 ≡ false = ne_eqb (bit_at bits i) 1 (λ e. other (shr_and_one bits i ∙ e)) in
    rw (add-one i, clear) (append-nil (numbers_below (is_bit_set bits) i))

pub count_numbers : (test : ℕ → Bool) (n : ℕ) → length (numbers_below test n) ≤ n
count_numbers test zero = omega arith
count_numbers test (suc n) =
    let so_far : length (numbers_below test n) ≤ n = count_numbers test n in
    rw (length-append (numbers_below test n) (cond (test n) (n ∷ []) []))
    (elim (test n) as (λ b. length (numbers_below test n) + length (cond b (n ∷ []) []) ≤ suc n) [ true ↦ omega arith | false ↦ omega arith ])

numbers_small : (test : ℕ → Bool) (end n : ℕ) → n ≤ end → All (λ i. i < end) (numbers_below test n)
numbers_small test end zero low = All-nil (λ i. i < end)
numbers_small test end (suc n) low =
    All-append (λ i. i < end) (numbers_below test n) (cond (test n) (n ∷ []) []) (numbers_small test end n (omega arith))
    (elim (test n) as (λ b. All (λ i. i < end) (cond b (n ∷ []) [])) [
      | true ↦ All-cons (λ i. i < end) n [] (omega arith) (All-nil (λ i. i < end))
      | false ↦ All-nil (λ i. i < end)
    ])

-- the replicas of a set are a list that has a text
pub replicas_are : (bits : ℕ) → AreUpTo (λ (r : ℕ). r < 16) 16 (replicas_of bits)
unfolding replicas_of
replicas_are bits = record { few = count_numbers (is_bit_set bits) 16; each = numbers_small (is_bit_set bits) 16 16 (lit≤ tt) }

-- ---- the bits of a list

with_append : (bits : ℕ) (is js : List ℕ) → bits_with bits (is ++ js) ≡ bits_with (bits_with bits is) js
with_append bits [] js = refl
with_append bits (i ∷ is) js = with_append (bit_or bits (1 * 2 ^ i % 2 ^ 16)) is js

-- a number up to its next bit
one_more : (bits n : ℕ) → bits % 2 ^ suc n ≡ bit_at bits n * 2 ^ n + bits % 2 ^ n
one_more bits n = let same : suc n ≡ 1 + n = omega arith in ap (λ k. bits % 2 ^ k) same ∙ mod-pow-add bits 1 n

next : (bits so_far n : ℕ) (b : Bool) → n < 16 → so_far ≡ bits % 2 ^ n → is_bit_set bits n ≡ b → bits_with so_far (cond b (n ∷ []) []) ≡ bits % 2 ^ suc n
next bits so_far n true room is e =
    let clear : bit_at so_far n ≡ 0 = bit_at_above so_far n n (rw is (mod-lt bits (pow_pos n))) (le_refl n) in
    let none : bit_and so_far (2 ^ n) ≡ 0 * 2 ^ n = and_pow so_far n ∙ ap (λ v. v * 2 ^ n) clear in
    let set : bit_at bits n * 2 ^ n ≡ 1 * 2 ^ n = ap (λ v. v * 2 ^ n) (eqb-true (bit_at bits n) 1 e) in
    let sum : bit_or so_far (2 ^ n) ≡ bits % 2 ^ suc n = omega (arith, none, or_add_and so_far (2 ^ n), set, one_more bits n, is) in
    ap (bit_or so_far) (one_shl n 16 room) ∙ sum
next bits so_far n false room is e =
    let no : bit_at bits n ≡ 1 → ⊥ = λ one. false≢true (sym e ∙ eq-eqb (bit_at bits n) 1 one) in
    let zero_bit : bit_at bits n ≡ 0 = omega (arith, bit_at-lt bits n, no) in
    let clear : bit_at bits n * 2 ^ n ≡ 0 * 2 ^ n = ap (λ v. v * 2 ^ n) zero_bit in
    omega (arith, clear, one_more bits n, is)

set_below : (bits n : ℕ) → n ≤ 16 → bits_with 0 (numbers_below (is_bit_set bits) n) ≡ bits % 2 ^ n
set_below bits zero fits = omega arith
set_below bits (suc n) fits =
    with_append 0 (numbers_below (is_bit_set bits) n) (cond (is_bit_set bits n) (n ∷ []) [])
    ∙ next bits (bits_with 0 (numbers_below (is_bit_set bits) n)) n (is_bit_set bits n) (omega arith) (set_below bits n (omega arith)) refl

-- a set of replicas is that of its list
bits_of_replicas : (bits : ℕ) → bits < 2 ^ 16 → bits_with 0 (replicas_of bits) ≡ bits
unfolding replicas_of
bits_of_replicas bits small = set_below bits 16 (lit≤ tt) ∙ mod-eq_of_lt small

-- ---- texts

-- the answer is the set whose text the bytes are
abbrev pub ReadsSet : List ℕ → Option ℕ → Type 0
ReadsSet = Reads (λ (bits : ℕ). bits < 2 ^ 16) (λ bits. replicas_text (replicas_of bits))

abbrev ReadsList : List ℕ → Option (List ℕ) → Type 0
ReadsList = Reads (AreUpTo (λ (r : ℕ). r < 16) 16) replicas_text

pub no_list : (bytes : List ℕ) → ReadsList bytes None → ReadsSet bytes None
no_list bytes reads =
    reads_none (λ (bits : ℕ). bits < 2 ^ 16) (λ bits. replicas_text (replicas_of bits)) bytes
    (λ bits small e. not_read (AreUpTo (λ (r : ℕ). r < 16) 16) replicas_text bytes reads (replicas_of bits) (replicas_are bits) e)

only_list : (bytes : List ℕ) (rs : List ℕ) (bits : ℕ) → ReadsList bytes (Some rs) → bytes ≡ replicas_text (replicas_of bits) → rs ≡ replicas_of bits
only_list bytes rs bits reads e = only_read (AreUpTo (λ (r : ℕ). r < 16) 16) replicas_text bytes rs reads (replicas_of bits) (replicas_are bits) e

-- a list other than that of its set is the text of no set
pub another_list : (bytes rs : List ℕ) → ReadsList bytes (Some rs) → (replicas_of (bits_with 0 rs) ≡ rs → ⊥) → ReadsSet bytes None
another_list bytes rs reads other =
    reads_none (λ (bits : ℕ). bits < 2 ^ 16) (λ bits. replicas_text (replicas_of bits)) bytes
    (λ bits small e.
    let same = only_list bytes rs bits reads e in
    other (ap (λ l. replicas_of (bits_with 0 l)) same ∙ ap replicas_of (bits_of_replicas bits small) ∙ sym same))

pub its_list : (bytes rs : List ℕ) (bits : ℕ) → bits < 2 ^ 16 → ReadsList bytes (Some rs) → bits ≡ bits_with 0 rs → replicas_of bits ≡ rs → ReadsSet bytes (Some bits)
its_list bytes rs bits small reads set list =
    reads_some (λ (bits : ℕ). bits < 2 ^ 16) (λ bits. replicas_text (replicas_of bits)) bytes bits small
    ((was_read (AreUpTo (λ (r : ℕ). r < 16) 16) replicas_text bytes rs reads).1 ∙ ap replicas_text (sym list))
    (λ others fit e. set ∙ ap (bits_with 0) (only_list bytes rs others reads e) ∙ bits_of_replicas others fit)

-- the bytes before the first mark are the token of the number in front of it
pub field_cut : (bs front rest : List ℕ) (n : ℕ) (after : List ℕ) → bs ≡ front ++ 32 ∷ rest → IsAbsent 32 front → n < 2 ^ 40 → bs ≡ decimal n ++ 32 ∷ after → (front ≡ decimal n) × (rest ≡ after)
field_cut bs front rest n after parts absent small text =
    one_cut 32 front rest (decimal n) after absent (decimal_without_low 32 n (lit< tt) (omega arith)) (sym parts ∙ text)

-- the fields of a shape, one after another
pub fields_text : (n f m traitors : ℕ) (bs r s t : List ℕ) → bs ≡ decimal n ++ 32 ∷ r → r ≡ decimal f ++ 32 ∷ s → s ≡ decimal m ++ 32 ∷ t
    → t ≡ replicas_text (replicas_of traitors) → bs ≡ shape_text (shape_of n f m traitors)
fields_text n f m traitors bs r s t a b c d =
    let inner : s ≡ decimal m ++ 32 ∷ replicas_text (replicas_of traitors) = c ∙ ap (λ xs. decimal m ++ 32 ∷ xs) d in
    let middle : r ≡ decimal f ++ 32 ∷ (decimal m ++ 32 ∷ replicas_text (replicas_of traitors)) = b ∙ ap (λ xs. decimal f ++ 32 ∷ xs) inner in
    a ∙ ap (λ xs. decimal n ++ 32 ∷ xs) middle

-- Cuts at a mark that is outside parentheses, and what such a mark can follow.
use Rattle.std.proofs.Common.{◌≡◌, ◌≢◌, ℕ, ◌+◌, ◌<◌, Bool, true, false, cond, eqb, List, [], ◌∷◌, ◌++◌, length, get_or, take, refl, sym, ◌∙◌, ap, subst, ◌≤◌, ◌^◌, arith, lit<}
use Rattle.std.proofs.lemmas.Bool.{ne_eqb}
use Rattle.std.proofs.lemmas.List.{take_more}
use Rattle.std.proofs.lemmas.List.Elements.{All-head, All-tail}
use Rattle.std.specs.Fmt.{decimal}
use Rattle.dsr_base.specs.Split.{IsAbsent, IsFree, IsPart, is_inside_with, is_inside_after}
use Rattle.dsr_base.proofs.Marks.{decimal_without_low, letter_then_without}

-- ---- two texts, one after the other

free_append : (mark : ℕ) (inside : Bool) (xs ys : List ℕ) → IsFree mark inside xs → IsFree mark (is_inside_after inside xs) ys
    → IsFree mark inside (xs ++ ys)
free_append mark inside [] ys h k = k
free_append mark inside (x ∷ xs) ys h k = (h.0, free_append mark (is_inside_with inside x) xs ys h.1 k)

inside_append : (inside : Bool) (xs ys : List ℕ) → is_inside_after inside (xs ++ ys) ≡ is_inside_after (is_inside_after inside xs) ys
inside_append inside [] ys = refl
inside_append inside (x ∷ xs) ys = inside_append (is_inside_with inside x) xs ys

-- a part, and a part after it
pub part_append : (mark : ℕ) (xs ys : List ℕ) → IsPart mark xs → IsPart mark ys → IsPart mark (xs ++ ys)
part_append mark xs ys h k =
    record {
      free = free_append mark false xs ys h.free (subst (λ b. IsFree mark b ys) (sym h.closed) k.free);
      closed = inside_append false xs ys ∙ ap (λ b. is_inside_after b ys) h.closed ∙ k.closed;
    }

-- ---- the one way in which the first mark outside cuts a text

not_free_from : (mark : ℕ) (inside : Bool) (us vs : List ℕ) → is_inside_after inside us ≡ false → IsFree mark inside (us ++ mark ∷ vs) → ⊥
not_free_from mark inside [] vs closed h = h.0 closed refl
not_free_from mark inside (u ∷ us) vs closed h = not_free_from mark (is_inside_with inside u) us vs closed h.1

-- a text with the mark after a part of it has the mark outside
pub not_free : (mark : ℕ) (us vs : List ℕ) → IsPart mark us → IsFree mark false (us ++ mark ∷ vs) → ⊥
not_free mark us vs part h = not_free_from mark false us vs part.closed h

one_cut_from : (mark : ℕ) (inside : Bool) (xs ys us vs : List ℕ) → IsFree mark inside xs → is_inside_after inside xs ≡ false
    → IsFree mark inside us → is_inside_after inside us ≡ false → xs ++ mark ∷ ys ≡ us ++ mark ∷ vs → (xs ≡ us) × (ys ≡ vs)
one_cut_from mark inside [] ys [] vs p p' q q' e = (refl, cc)
one_cut_from mark inside [] ys (u ∷ us) vs p p' q q' e =
    let same : u ≡ mark = cc in
    absurd (q.0 p' same)
one_cut_from mark inside (x ∷ xs) ys [] vs p p' q q' e =
    let same : x ≡ mark = cc in
    absurd (p.0 q' same)
one_cut_from mark inside (x ∷ xs) ys (u ∷ us) vs p p' q q' e =
    let heads : x ≡ u = cc in
    let tails : xs ++ mark ∷ ys ≡ us ++ mark ∷ vs = cc in
    let inside_too : is_inside_with inside u ≡ is_inside_with inside x = ap (is_inside_with inside) (sym heads) in
    let both = one_cut_from mark (is_inside_with inside x) xs ys us vs p.1 p' (subst (λ b. IsFree mark b us) inside_too q.1)
    (ap (λ b. is_inside_after b us) (sym inside_too) ∙ q') tails in
    let fronts : xs ≡ us = both.0 in
    (cc, both.1)

-- two cuts of one text, each after a part, are the same cut
pub one_cut_outside : (mark : ℕ) (xs ys us vs : List ℕ) → IsPart mark xs → IsPart mark us → xs ++ mark ∷ ys ≡ us ++ mark ∷ vs
    → (xs ≡ us) × (ys ≡ vs)
one_cut_outside mark xs ys us vs p q e = one_cut_from mark false xs ys us vs p.free p.closed q.free q.closed e

-- ---- what is a part

outside_stays : (byte : ℕ) → byte ≢ 40 → is_inside_with false byte ≡ false
outside_stays byte other = rw (ne_eqb byte 40 other) (elim (eqb byte 41) as (λ b. cond b false false ≡ false) [ true ↦ refl | false ↦ refl ])

inside_stays : (byte : ℕ) → byte ≢ 41 → is_inside_with true byte ≡ true
inside_stays byte other = rw (ne_eqb byte 41 other) (elim (eqb byte 40) as (λ b. cond b true true ≡ true) [ true ↦ refl | false ↦ refl ])

-- a text with neither the mark nor `(` in it is a part
pub plain_part : (mark : ℕ) (bytes : List ℕ) → IsAbsent mark bytes → IsAbsent 40 bytes → IsPart mark bytes
plain_part mark [] h k = record { free = tt; closed = refl }
plain_part mark (b ∷ bs) h k =
    let same : false ≡ is_inside_with false b = sym (outside_stays b (All-head (λ x. x ≢ 40) b bs k)) in
    let rest : IsPart mark bs = plain_part mark bs (All-tail (λ x. x ≢ mark) b bs h) (All-tail (λ x. x ≢ 40) b bs k) in
    record {
      free = (λ outside. All-head (λ x. x ≢ mark) b bs h, subst (λ i. IsFree mark i bs) same rest.free);
      closed = ap (λ i. is_inside_after i bs) (sym same) ∙ rest.closed;
    }

free_within : (mark : ℕ) (bytes after : List ℕ) → IsAbsent 41 bytes → IsFree mark true after → IsFree mark true (bytes ++ after)
free_within mark [] after h k = k
free_within mark (b ∷ bs) after h k =
    let same : true ≡ is_inside_with true b = sym (inside_stays b (All-head (λ x. x ≢ 41) b bs h)) in
    let no : true ≡ false → b ≢ mark = λ (e : true ≡ false). cc in
    (no, subst (λ i. IsFree mark i (bs ++ after)) same (free_within mark bs after (All-tail (λ x. x ≢ 41) b bs h) k))

inside_within : (bytes after : List ℕ) → IsAbsent 41 bytes → is_inside_after true (bytes ++ after) ≡ is_inside_after true after
inside_within [] after h = refl
inside_within (b ∷ bs) after h =
    ap (λ i. is_inside_after i (bs ++ after)) (inside_stays b (All-head (λ x. x ≢ 41) b bs h)) ∙ inside_within bs after (All-tail (λ x. x ≢ 41) b bs h)

-- what is in a pair of parentheses, with the pair, is a part for each mark except `(`
pub wrapped_part : (mark : ℕ) (within : List ℕ) → 40 ≢ mark → IsAbsent 41 within → IsPart mark (40 ∷ (within ++ 41 ∷ []))
wrapped_part mark within other h =
    let no : true ≡ false → 41 ≢ mark = λ (e : true ≡ false). cc in
    record {
      free = (λ outside. other, free_within mark within (41 ∷ []) h (no, tt));
      closed = inside_within within (41 ∷ []) h;
    }

-- ---- a search

-- one more byte that is not a mark outside
pub free_more : (mark : ℕ) (bytes : List ℕ) (i : ℕ) → i < length bytes → IsFree mark false (take i bytes)
    → (is_inside_after false (take i bytes) ≡ false → get_or bytes i 0 ≢ mark) → IsFree mark false (take (i + 1) bytes)
free_more mark bytes i inside h other =
    subst (IsFree mark false) (sym (take_more bytes i 0 inside)) (free_append mark false (take i bytes) (get_or bytes i 0 ∷ []) h (other, tt))

-- and the flag goes on
pub inside_more : (bytes : List ℕ) (i : ℕ) → i < length bytes
    → is_inside_after false (take (i + 1) bytes) ≡ is_inside_with (is_inside_after false (take i bytes)) (get_or bytes i 0)
inside_more bytes i inside = ap (is_inside_after false) (take_more bytes i 0 inside) ∙ inside_append false (take i bytes) (get_or bytes i 0 ∷ [])

-- a letter with a number after it is a part for each mark below the digits
pub lettered_part : (mark letter n : ℕ) → mark < 48 → 48 ≤ letter → n < 2 ^ 64 → IsPart mark (letter ∷ decimal n)
lettered_part mark letter n low high small =
    plain_part mark (letter ∷ decimal n) (letter_then_without letter mark (decimal n) (omega arith) (decimal_without_low mark n low small))
    (letter_then_without letter 40 (decimal n) (omega arith) (decimal_without_low 40 n (lit< tt) small))

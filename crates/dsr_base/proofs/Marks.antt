-- A byte that is nowhere in a text, and the one way in which its first place cuts a text.
use Rattle.std.proofs.Common.{◌≡◌, ◌≢◌, ℕ, ◌^◌, ◌<◌, List, [], ◌∷◌, ◌++◌, refl, arith}
use Rattle.std.specs.Fmt.{decimal}
use Rattle.std.proofs.lemmas.Fmt.{digits_decimal}
use Rattle.std.proofs.lemmas.List.Elements.{All-cons, All-from_get_or, All-head, All-tail}
use Rattle.std.proofs.lemmas.Str.Parse.{digit_at}
use Rattle.dsr_base.specs.Split.{IsAbsent}
use Rattle.dsr_base.proofs.Numerals.{own}

-- a text that has the byte in it is not without it
pub not_absent : (byte : ℕ) (us vs : List ℕ) → IsAbsent byte (us ++ byte ∷ vs) → ⊥
not_absent byte [] vs h = All-head (λ b. b ≢ byte) byte vs h refl
not_absent byte (u ∷ us) vs h = not_absent byte us vs (All-tail (λ b. b ≢ byte) u (us ++ byte ∷ vs) h)

-- two cuts of one text, each at the first place of the byte, are the same cut
pub one_cut : (byte : ℕ) (xs ys us vs : List ℕ) → IsAbsent byte xs → IsAbsent byte us → xs ++ byte ∷ ys ≡ us ++ byte ∷ vs
    → (xs ≡ us) × (ys ≡ vs)
one_cut byte [] ys [] vs p q e = (refl, cc)
one_cut byte [] ys (u ∷ us) vs p q e =
    let same : u ≡ byte = cc in
    absurd (All-head (λ b. b ≢ byte) u us q same)
one_cut byte (x ∷ xs) ys [] vs p q e =
    let same : x ≡ byte = cc in
    absurd (All-head (λ b. b ≢ byte) x xs p same)
one_cut byte (x ∷ xs) ys (u ∷ us) vs p q e =
    let heads : x ≡ u = cc in
    let tails : xs ++ byte ∷ ys ≡ us ++ byte ∷ vs = cc in
    let both = one_cut byte xs ys us vs (All-tail (λ b. b ≢ byte) x xs p) (All-tail (λ b. b ≢ byte) u us q) tails in
    let fronts : xs ≡ us = both.0 in
    (cc, both.1)

-- no decimal holds a byte below its digits
pub decimal_without_low : (byte n : ℕ) → byte < 48 → n < 2 ^ 64 → IsAbsent byte (decimal n)
decimal_without_low byte n low small =
    All-from_get_or (λ b. b ≢ byte) (decimal n) 0 (λ k inside e. let digit = digit_at (decimal n) k (digits_decimal own n small) inside in omega (arith, digit))

-- a byte that a text lacks is also lacking in the text with a letter above the byte in front
pub letter_then_without : (letter byte : ℕ) (bytes : List ℕ) → byte < letter → IsAbsent byte bytes → IsAbsent byte (letter ∷ bytes)
letter_then_without letter byte bytes low others = All-cons (λ b. b ≢ byte) letter bytes (λ e. omega arith) others

-- Decimals without sign or leading zero are what `decimal` writes, and nothing else.
use Rattle.std.proofs.Common.{◌≡◌, ℕ, zero, suc, ◌+◌, ◌-◌, ◌*◌, ◌<◌, ◌≤◌, ◌^◌, true, false, None, Some, Option, length, List, [], ◌∷◌, get_or, take, arith, refl, sym, ◌∙◌, ap}
use Rattle.std.specs.Option.{SomeIff}
use Rattle.std.specs.Char.{is_ascii_digit, digit_value}
use Rattle.std.specs.Int.{IsInRange}
use Rattle.std.specs.Fmt.{decimal}
use Rattle.std.specs.Str.Parse.{IsNumeral, AllDigits, digits_value}
use Rattle.std.proofs.lemmas.Str.Parse.{IsNumeralModel, numerals_by_value, tells_digits, digit_at, digits_value-take-le}
use Rattle.std.proofs.lemmas.Fmt.{first_decimal, decimal-digits_value, decimal_digit, decimal_is_IsNumeral}
use Rattle.std.proofs.lemmas.Bool.Decides.{nat_tests}
use Rattle.std.proofs.lemmas.Int.Digits.{digits_more, digits_value_more}
use Rattle.dsr_base.specs.Reads.{Reads}

pub own : IsNumeralModel (AllDigits 10) (digits_value 10)
own = numerals_by_value (AllDigits 10) tells_digits

-- a byte that is not a digit is in no numeral
pub only_digits : (bs : List ℕ) (i : ℕ) → i < length bs → is_ascii_digit (get_or bs i 0) ≡ false → ¬ (IsNumeral 10 bs)
only_digits bs i inside other h =
    let digit : IsInRange 48 57 (get_or bs i 0) = digit_at bs i h.1 inside in
    grind (arith, nat_tests)

-- one digit further than the first i bytes, which write n
pub further_digit : (bs : List ℕ) (i n : ℕ) → i < length bs → is_ascii_digit (get_or bs i 0) ≡ true → AllDigits 10 (take i bs)
    → n ≡ digits_value 10 (take i bs) → AllDigits 10 (take (i + 1) bs) × (n * 10 + (get_or bs i 0 - 48) ≡ digits_value 10 (take (i + 1) bs))
further_digit bs i n inside digit all value =
    let worth : digit_value (get_or bs i 0) ≡ get_or bs i 0 - 48 = grind (arith, nat_tests) in
    let small : digit_value (get_or bs i 0) < 10 = grind (arith, nat_tests) in
    (digits_more 10 bs i inside all small, rw (digits_value_more 10 bs i inside, worth, value))

-- if a front writes 2^64 or more, the whole does
pub too_large : (bs : List ℕ) (i n : ℕ) → 2 ^ 64 ≤ n → n ≤ digits_value 10 (take i bs) → ¬ (digits_value 10 bs < 2 ^ 64)
too_large bs i n large front small =
    let whole = digits_value-take-le 10 bs i (omega arith) in
    omega arith

-- no number's decimal has a zero before another digit
pub no_leading_zero : (bs : List ℕ) (n : ℕ) → 1 < length bs → get_or bs 0 0 ≡ 48 → n < 2 ^ 64 → bs ≡ decimal n → ⊥
no_leading_zero bs zero long first small e =
    let one : length bs ≡ 1 = ap length (e ∙ decimal_digit 0 (omega arith)) in
    omega arith
no_leading_zero bs (suc n) long first small e =
    let above : 48 < get_or (decimal (suc n)) 0 0 = first_decimal (suc n) (omega arith) small in
    let same : get_or bs 0 0 ≡ get_or (decimal (suc n)) 0 0 = ap (λ ds. get_or ds 0 0) e in
    omega arith

-- digits without a leading zero are the decimal of the number that they write
decimal_of : (bs : List ℕ) → (get_or bs 0 0 ≡ 48 → length bs ≡ 1) → IsNumeral 10 bs → digits_value 10 bs < 2 ^ 64 → bs ≡ decimal (digits_value 10 bs)
decimal_of bs single h small = sym (decimal-digits_value own bs h.1 h.0 single small)

-- if no zero precedes another digit, a zero in front is alone
only_digit : (bs : List ℕ) → (1 < length bs → get_or bs 0 0 ≡ 48 → ⊥) → get_or bs 0 0 ≡ 48 → length bs ≡ 1
only_digit [] apart first = cc
only_digit (x ∷ []) apart first = refl
only_digit (x ∷ y ∷ ys) apart first = absurd (apart (omega arith) first)

-- given bytes without a leading zero, a reader of digits reads exactly the decimals
pub reads_decimals : (bs : List ℕ) (r : Option ℕ) → (1 < length bs → get_or bs 0 0 ≡ 48 → ⊥)
    → SomeIff r (IsNumeral 10 bs × (digits_value 10 bs < 2 ^ 64)) (digits_value 10 bs) → Reads (λ (n : ℕ). n < 2 ^ 64) decimal bs r
reads_decimals bs None apart h n = (
  (λ e. cc),
  (λ p.
      let q : IsNumeral 10 (decimal n) × (digits_value 10 (decimal n) ≡ n) = decimal_is_IsNumeral n p.0 in
      let numeral : IsNumeral 10 bs = rw p.1 q.0 in
      let value : digits_value 10 bs ≡ n = rw p.1 q.1 in
      absurd (h (numeral, omega arith))),
)
reads_decimals bs (Some m) apart h n = (
  (λ e.
      let same : m ≡ n = cc in
      let value : digits_value 10 bs ≡ n = sym h.1 ∙ same in
      let spelled : bs ≡ decimal (digits_value 10 bs) = decimal_of bs (only_digit bs apart) h.0.0 h.0.1 in
      (omega arith, spelled ∙ ap decimal value)),
  (λ p.
      let q : IsNumeral 10 (decimal n) × (digits_value 10 (decimal n) ≡ n) = decimal_is_IsNumeral n p.0 in
      let value : digits_value 10 bs ≡ n = rw p.1 q.1 in
      ap Some (h.1 ∙ value)),
)

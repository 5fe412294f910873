-- Numbers by their last digits.
use Rattle.std.proofs.Common.{◌≡◌, ◌∙◌, ℕ, ◌+◌, ◌/◌, ◌%◌, ◌<◌, ◌≤◌, ◌++◌, [], ◌∷◌, ap, arith, sym}
use Rattle.std.specs.Fmt.{decimal}
use Rattle.std.proofs.lemmas.Fmt.{decimal_digit, decimal_step}
use Rattle.dsr_reasons.specs.Digits.{last_two}

-- a number of two digits
pub two_digits : (n : ℕ) → 10 ≤ n → n < 100 → last_two n ≡ decimal n
two_digits n low high =
    let tens : n / 10 % 10 ≡ n / 10 = omega (arith, high) in
    ap (λ d. (48 + d) ∷ (48 + n % 10) ∷ []) tens
    ∙ sym (decimal_step n low (omega (arith, high)) ∙ ap (λ t. t ++ ((48 + n % 10) ∷ [])) (decimal_digit (n / 10) (omega (arith, high))))

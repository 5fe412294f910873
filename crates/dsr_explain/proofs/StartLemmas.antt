-- How the line of an event begins, by the hundreds of its number.
use Rattle.std.proofs.Common.{◌≡◌, ◌≢◌, ◌∙◌, ℕ, Bool, true, false, ◌+◌, ◌/◌, ◌%◌, ◌<◌, ◌≤◌, ◌++◌, List, [], ◌∷◌, ap, append_assoc, arith, refl, subst, sym}
use Rattle.std.specs.Prelude.{◌==◌, ◌^◌, Option, if◌then◌else◌}
use Rattle.std.specs.Fmt.{decimal}
use Rattle.std.proofs.Math.Nat.{div-div-eq-div-mul}
use Rattle.std.proofs.lemmas.Bool.{eqb-false}
use Rattle.std.proofs.lemmas.Fmt.{decimal_step}
use Rattle.dsr_reasons.specs.Digits.{last_two}
use Rattle.dsr_explain.specs.Heads.{hundreds_text, last_text, start_text, text_before}

-- a number with hundreds
with_hundreds : (n : ℕ) → 100 ≤ n → n < 2 ^ 64 → decimal (n / 100) ++ last_two n ≡ decimal n
with_hundreds n low fits =
    let tens = decimal_step (n / 10) (omega (arith, low)) (omega (arith, fits)) ∙ ap (λ k. decimal k ++ ((48 + n / 10 % 10) ∷ [])) (div-div-eq-div-mul n 10 10) in
    sym (decimal_step n (omega (arith, low)) fits
    ∙ (ap (λ t. t ++ ((48 + n % 10) ∷ [])) tens ∙ append_assoc (decimal (n / 100)) ((48 + n / 10 % 10) ∷ []) ((48 + n % 10) ∷ [])))

-- a number is its hundreds and what comes after them
by_hundreds : (hundreds n : ℕ) → hundreds ≡ n / 100 → n < 2 ^ 64 → hundreds_text hundreds ++ last_text hundreds n ≡ decimal n
by_hundreds hundreds n e fits = cases (hundreds == 0) refl
  where
    cases : (b : Bool) → (hundreds == 0) ≡ b → (if b then [] else decimal hundreds) ++ (if b then decimal n else last_two n) ≡ decimal n
    cases true none = refl
    cases false some =
        let above : hundreds ≢ 0 = eqb-false hundreds 0 some in
        subst (λ h. decimal h ++ last_two n ≡ decimal n) (sym e) (with_hundreds n (omega (arith, e, above)) fits)

-- the beginning of the line of the event with this number, written part after part
pub start_is : (line : Option ℕ) (hundreds n : ℕ) (old mid new : List ℕ) → hundreds ≡ n / 100 → n < 2 ^ 64
    → mid ≡ old ++ start_text line hundreds → new ≡ mid ++ last_text hundreds n → new ≡ old ++ (text_before line ++ decimal n)
start_is line hundreds n old mid new e fits first second =
    rw (← by_hundreds hundreds n e fits) (simp (append_assoc, second, first) refl)

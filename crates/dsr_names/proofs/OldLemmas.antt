-- `none` is not a decimal, so the token of what a register holds has one reading.
use Rattle.std.proofs.Common.{◌≡◌, ℕ, subst, ◌<◌, ◌^◌, ◌↔◌, None, Some, Option, List, arith, refl, sym, ◌∙◌, codes}
use Rattle.std.specs.Fmt.{decimal}
use Rattle.std.specs.Str.Parse.{AllDigits}
use Rattle.std.proofs.lemmas.Fmt.{digits_decimal}
use Rattle.dsr_base.proofs.Numerals.{own}
use Rattle.dsr_names.specs.Token.{IsOld, old_text}

-- `none` is not a number
pub none_is_no_number : (n : ℕ) → n < 2 ^ 64 → codes "none" ≡ decimal n → ⊥
none_is_no_number n small e =
    let h : AllDigits 10 (decimal n) = digits_decimal own n small in
    let k : AllDigits 10 (codes "none") = subst (AllDigits 10) (sym e) h in
    omega (arith, k.0)

-- the bytes of `none` are the token of nothing, and of no number
pub reads_none : (bs : List ℕ) → bs ≡ codes "none" → (old : Option ℕ)
    → (◌≡◌ {A = Option (Option ℕ)} (Some None) (Some old)) ↔ (IsOld old × (bs ≡ old_text old))
reads_none bs e None = ((λ same. (tt, e)), (λ p. refl))
reads_none bs e (Some n) = ((λ same. cc), (λ p. absurd (none_is_no_number n p.0 (sym e ∙ p.1))))

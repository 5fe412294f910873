-- What the numbers of a report say about the refusal.
use Rattle.std.proofs.Common.{◌≡◌, ◌⊎◌, inl, inr, ℕ, Result, Ok, Err, ap, ◌∙◌}
use Rattle.dsr_names.specs.Refusal.{code_of}
use Rattle.dsr_names.specs.declared.refusal.Refusal.{Refusal}
use Rattle.dsr_names.specs.declared.refusal.Refusal.TheVariants.{NoMemory, NotARun}
use Rattle.dsr_check.specs.Verdict.{Verdict}
use Rattle.dsr_check_c.specs.Report.{line_of}

-- a verdict is neither of two refusals
pub not_refused : {A : Type 0} (verdict : Verdict) (one other : Refusal) → (Ok verdict ≡ Err one) ⊎ (Ok verdict ≡ Err other) → A
not_refused verdict one other (inl e) = cc
not_refused verdict one other (inr e) = cc

same_refusal : (V : Type 0) (one other : Refusal) → ◌≡◌ {A = Result V Refusal} (Err one) (Err other) → one ≡ other
same_refusal V one other e = cc

-- a refusal is known by its number, and a bad step by its line too
pub refused_as : (V : Type 0) (refusal : Refusal) (line code named : ℕ) → code ≡ code_of refusal → named ≡ line_of refusal
    → (◌≡◌ {A = Result V Refusal} (Err refusal) (Err (NotARun line))) ⊎ (◌≡◌ {A = Result V Refusal} (Err refusal) (Err NoMemory))
    → ((code ≡ 14) × (named ≡ line)) ⊎ (code ≡ 12)
refused_as V refusal line code named number told (inl e) =
    let is = same_refusal V refusal (NotARun line) e in inl (number ∙ ap code_of is, told ∙ ap line_of is)
refused_as V refusal line code named number told (inr e) = inr (number ∙ ap code_of (same_refusal V refusal NoMemory e))

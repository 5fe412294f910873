-- Loyal replicas that closed as many slots decided the same.
use Rattle.std.proofs.Common.{◌≡◌, ◌⊎◌, ◌+◌, ◌∙◌, ℕ, zero, suc, List, [], ◌∷◌, ◌++◌, arith, inl, inr, length, length-append, refl, ap, sym}
use Rattle.dsr_base.specs.Growth.{Extends}
use Rattle.dsr_names.specs.Shape.{Shape, IsLoyal}
use Rattle.dsr_names.specs.declared.actor.Actor.TheVariants.{Replica}
use Rattle.dsr_run.specs.Agreement.{HasAgreement}
use Rattle.dsr_run.specs.History.{decided_at}
use Rattle.dsr_run.specs.Step.{Step, log_of}

-- a list with no item
no_items : {A : Type 0} (xs : List A) → length xs ≡ 0 → xs ≡ []
no_items [] none = refl
no_items (x ∷ xs) none = absurd cc

-- a list that extends another of the same length is the same
as_long : {A : Type 0} (later earlier : List A) → length later ≡ length earlier → Extends later earlier → later ≡ earlier
as_long later earlier same (newer, grown) =
    let count = length-append newer earlier in
    let whole = ap length grown in
    grown ∙ ap (λ xs. xs ++ earlier) (no_items newer (omega (arith, same, count, whole)))

-- two loyal replicas that closed as many slots
pub decided_alike : (shape : Shape) (run : List Step) → HasAgreement shape run → (p q : ℕ) → IsLoyal shape (Replica p) → IsLoyal shape (Replica q)
    → length (decided_at shape (log_of run) p) ≡ length (decided_at shape (log_of run) q) → decided_at shape (log_of run) p ≡ decided_at shape (log_of run) q
decided_alike shape run agrees p q loyal other same = elim (agrees.agree p q loyal other).lists [
  | inl more ↦ as_long (decided_at shape (log_of run) p) (decided_at shape (log_of run) q) same more
  | inr more ↦ sym (as_long (decided_at shape (log_of run) q) (decided_at shape (log_of run) p) (sym same) more)
]

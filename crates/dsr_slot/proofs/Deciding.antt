-- What is kept over the same chains is the same; what is decided is a kept chain's value, or idle, and its requests were
-- asked.
use Rattle.std.proofs.Common.{◌≡◌, ℕ, zero, suc, ◌<◌, ◌≤◌, List, [], ◌∷◌, ◌⊎◌, inl, inr, refl, ap, ◌∙◌, arith}
use Rattle.std.specs.Prelude.{All}
use Rattle.std.proofs.lemmas.List.Elements.{All-nil}
use Rattle.dsr_base.specs.Member.{In, here}
use Rattle.dsr_names.specs.Shape.{Shape}
use Rattle.dsr_chain.specs.Content.{signed_in}
use Rattle.dsr_chain.specs.Chain.{Chain}
use Rattle.dsr_chain.specs.Proper.{IsAsked}
use Rattle.dsr_chain.specs.declared.slot_value.SlotValue.TheVariants.{Idle}
use Rattle.dsr_slot.specs.declared.kept.Kept.{Kept}
use Rattle.dsr_slot.specs.Keeping.{keep, kept_after}
use Rattle.dsr_slot.specs.Decision.{decision, decided}
use Rattle.dsr_slot.proofs.Keeps.{after_came}

-- what is kept after the first rounds depends on what was read in these alone
pub after_same : (shape : Shape) (slot : ℕ) (read other : ℕ → List Chain) (rounds : ℕ)
    → ((round : ℕ) → 0 < round → round ≤ rounds → read round ≡ other round) → kept_after shape slot read rounds ≡ kept_after shape slot other rounds
after_same shape slot read other zero agree = refl
after_same shape slot read other (suc r) agree =
    ap (λ ks. keep shape slot (suc r) ks (read (suc r)))
    (after_same shape slot read other r (λ round some within. agree round some (omega (arith, within))))
    ∙ ap (keep shape slot (suc r) (kept_after shape slot other r)) (agree (suc r) (omega arith) (omega arith))

-- what is decided over kept chains is idle, or the value of one of them
pub decision_from : (kept : List Kept) → (decision kept ≡ Idle) ⊎ ((k : Kept) × In k kept × (k.chain.value ≡ decision kept))
decision_from [] = inl refl
decision_from (k ∷ []) = inr (k, here refl, refl)
decision_from (k ∷ l ∷ more) = inl refl

-- if the requests of each kept chain were asked, those of the decision were
pub decision_asked : (shape : Shape) (kept : List Kept) → ((k : Kept) → In k kept → All (IsAsked shape) (signed_in k.chain.value))
    → All (IsAsked shape) (signed_in (decision kept))
decision_asked shape [] asked = All-nil (IsAsked shape)
decision_asked shape (k ∷ []) asked = asked k (here refl)
decision_asked shape (k ∷ l ∷ more) asked = All-nil (IsAsked shape)

-- the requests of what is decided were asked, whatever was read
pub decided_asked : (shape : Shape) (slot : ℕ) (read : ℕ → List Chain) → All (IsAsked shape) (signed_in (decided shape slot read))
decided_asked shape slot read =
    decision_asked shape (kept_after shape slot read (suc shape.f)) (λ k h. (after_came shape slot read (suc shape.f) k h).proper.asked)

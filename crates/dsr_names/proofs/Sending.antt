-- One more turn of a loop that sends a text to a sink whose room may be known.
use Rattle.std.proofs.Common.{◌≡◌, ◌≢◌, ◌⊎◌, ℕ, ◌+◌, ◌-◌, ◌≤◌, Option, None, Some, Result, Ok, IfSome, arith, inl, inr, subst}

-- if there is room for all, the first turn sends all
pub sends_all : (E : Type 0) (before now : Option ℕ) (sent count all rest : ℕ)
    → IfSome before (λ most. all ≤ most → (sent ≡ 0) ⊎ (sent ≡ all))
    → sent ≢ all → rest ≡ all - sent → (sent ≡ 0 → now ≡ before)
    → IfSome now (λ most. rest ≤ most → ◌≡◌ {A = Result ℕ E} (Ok count) (Ok rest))
    → IfSome before (λ most. all ≤ most → (sent + count ≡ 0) ⊎ (sent + count ≡ all))
sends_all E None now sent count all rest so_far more left same sure = tt
sends_all E (Some b) now sent count all rest so_far more left same sure =
    λ fits. elim (so_far fits) [
      | inl none ↦
          let whole : rest ≤ b → ◌≡◌ {A = Result ℕ E} (Ok count) (Ok rest) =
          subst (λ room. IfSome room (λ most. rest ≤ most → ◌≡◌ {A = Result ℕ E} (Ok count) (Ok rest))) (same none) sure in
          let ok : ◌≡◌ {A = Result ℕ E} (Ok count) (Ok rest) = whole (omega arith) in
          let took : count ≡ rest = cc in
          inr (omega arith)
      | inr done ↦ absurd (more done)
    ]

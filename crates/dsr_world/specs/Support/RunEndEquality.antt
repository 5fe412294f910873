-- When `==` holds for two ends of events: exactly if they are equal.
use Rattle.std.specs.Prelude.{◌≡◌, ℕ, Bool, ◌&&◌, Option}
use Rattle.std.specs.Bool.{Decides}
use Rattle.std.specs.Option.{option_eq}
use Rattle.std.proofs.Common.{rules, eqb, ap}
use Rattle.std.proofs.lemmas.Bool.Decides.{Decides-and, Decides-like, Decides-eqb}
use Rattle.dsr_base.specs.Support.Equality.{equal_options}
use Rattle.dsr_names.specs.declared.refusal.Refusal.{Refusal}
use Rattle.dsr_names.specs.contracts.refusal.RefusalPartialEq.TheImpl.{ghosts as of_refusals}
use Rattle.dsr_world.specs.declared.run_end.RunEnd.{RunEnd}
use Rattle.dsr_world.specs.contracts.run_end.RunEndPartialEq.TheImpl.{ghosts}

-- whether `==` holds for two indices with refusals
abbrev indexed_eq : ℕ × Refusal → ℕ × Refusal → Bool
indexed_eq (i, e) (j, d) = eqb i j && of_refusals.eq e d

refusal_eq-Decides : (e d : Refusal) → Decides (of_refusals.eq e d) (e ≡ d)
refusal_eq-Decides e d = search rules

indexed_eq-Decides : (a b : ℕ × Refusal) → Decides (indexed_eq a b) (a ≡ b)
indexed_eq-Decides (i, e) (j, d) =
    Decides-like (eqb i j && of_refusals.eq e d) (λ p. λ k. (p.0 k, p.1 k))
    (λ q. (ap (λ (x : ℕ × Refusal). x.0) q, ap (λ (x : ℕ × Refusal). x.1) q)) (Decides-and (eqb i j) (of_refusals.eq e d) (Decides-eqb i j) (refusal_eq-Decides e d))

-- the end of events with these fields
abbrev ends : ℕ → ℕ → ℕ → Option (ℕ × Refusal) → RunEnd
ends done refused starved first = record { done = done; refused = refused; starved = starved; first = first }

-- it holds exactly for equal ones
pub run_end_eq-Decides : (a b : RunEnd) → Decides (ghosts.eq a b) (a ≡ b)
run_end_eq-Decides a b =
    Decides-like (eqb a.done b.done && (eqb a.refused b.refused && (eqb a.starved b.starved && option_eq indexed_eq a.first b.first)))
    (λ p. let q = p.1 in let r = q.1 in λ i. ends (p.0 i) (q.0 i) (r.0 i) (r.1 i))
    (λ e. (ap (λ r. r.done) e, (ap (λ r. r.refused) e, (ap (λ r. r.starved) e, ap (λ r. r.first) e))))
    (Decides-and (eqb a.done b.done) (eqb a.refused b.refused && (eqb a.starved b.starved && option_eq indexed_eq a.first b.first)) (Decides-eqb a.done b.done)
    (Decides-and (eqb a.refused b.refused) (eqb a.starved b.starved && option_eq indexed_eq a.first b.first) (Decides-eqb a.refused b.refused)
    (Decides-and (eqb a.starved b.starved) (option_eq indexed_eq a.first b.first) (Decides-eqb a.starved b.starved)
    (equal_options indexed_eq-Decides a.first b.first))))

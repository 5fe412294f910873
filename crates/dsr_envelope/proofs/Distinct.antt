-- When no two clients of a list that begins with x are the same.
use Rattle.std.proofs.Common.{◌≡◌, ℕ, suc, ◌-◌, ◌≤◌, Bool, true, false, List, [], ◌∷◌, length, take, drop, get_or, subst, sym, arith}
use Rattle.std.specs.Prelude.{◌≢◌, ◌↔◌, All, AllPairs, IsTrue}
use Rattle.std.proofs.lemmas.Grind.{common_steps}
use Rattle.std.proofs.lemmas.List.Kept.{AllPairs-cons}

abbrev Distinct : List ℕ → Type 0
Distinct = AllPairs (λ a b. a ≢ b)

first_differs : (x : ℕ) (xs : List ℕ) → Distinct (x ∷ xs) → All (λ y. x ≢ y) xs
first_differs x xs distinct = λ i d inside. distinct 0 (suc i) d (omega arith) (omega (arith, inside))

rest_distinct : (x : ℕ) (xs : List ℕ) → Distinct (x ∷ xs) → Distinct xs
rest_distinct x xs distinct = λ i j d before inside. distinct (suc i) (suc j) d (omega (arith, before)) (omega (arith, inside))

abbrev rest_of : List ℕ → List ℕ
rest_of clients = take (length clients - 1) (drop 1 clients)

rest_is : (y : ℕ) (ys : List ℕ) → rest_of (y ∷ ys) ≡ ys
rest_is y ys = grind (arith, common_steps)

-- the first client differs from the others
pub decided_by_rest : (clients : List ℕ) (x : ℕ) (r later : Bool) → 1 ≤ length clients → x ≡ get_or clients 0 x
    → (IsTrue r ↔ All (λ y. x ≢ y) (rest_of clients)) → r ≡ true → (IsTrue later ↔ Distinct (rest_of clients)) → IsTrue later ↔ Distinct clients
decided_by_rest [] x r later some is tests is_true decides = absurd (omega arith)
decided_by_rest (y ∷ ys) x r later some is tests is_true decides =
    let others : All (λ z. y ≢ z) ys = subst (λ w. All (λ z. w ≢ z) ys) is (subst (All (λ z. x ≢ z)) (rest_is y ys) (tests.0 is_true)) in (
      λ e. AllPairs-cons (λ a b. a ≢ b) y ys others (subst Distinct (rest_is y ys) (decides.0 e)),
      λ h. decides.1 (subst Distinct (sym (rest_is y ys)) (rest_distinct y ys h)),
    )

-- the first client is one of the others
pub decided_by_first : (clients : List ℕ) (x : ℕ) (r : Bool) → 1 ≤ length clients → x ≡ get_or clients 0 x
    → (IsTrue r ↔ All (λ y. x ≢ y) (rest_of clients)) → r ≡ false → IsTrue r ↔ Distinct clients
decided_by_first [] x r some is tests is_false = absurd (omega arith)
decided_by_first (y ∷ ys) x r some is tests is_false = (
  λ e. absurd cc,
  λ h. tests.1 (subst (All (λ z. x ≢ z)) (sym (rest_is y ys)) (subst (λ w. All (λ z. w ≢ z) ys) (sym is) (first_differs y ys h))),
)

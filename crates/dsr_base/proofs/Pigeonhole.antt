-- How many numbers below n pass a test: a list of distinct ones is at most as long, a list of all of them at
-- least.
use Rattle.std.proofs.Common.{◌≡◌, ◌≢◌, ℕ, zero, suc, ◌+◌, ◌<◌, ◌≤◌, Bool, true, false, not, cond, eqb, List, [], ◌∷◌, length, get_or, ◌⊎◌, refl, ap, ap₂, sym, ◌∙◌, inl, inr, arith, eq-eqb}
use Rattle.std.specs.Prelude.{All, AllPairs}
use Rattle.std.proofs.lemmas.Bool.{cases_Bool, cases_eq, cond-true, cond-false, ne_eqb, true≢false}
use Rattle.std.proofs.lemmas.List.Elements.{All-nil, All-cons, All-head, All-tail}
use Rattle.dsr_base.specs.Bits.{count_below}
use Rattle.dsr_base.specs.Member.{In, here, there}

-- the test, except for x, which does not pass
but : (ℕ → Bool) → ℕ → ℕ → Bool
but p x i = cond (eqb i x) false (p i)

but_other : (p : ℕ → Bool) (x i : ℕ) → i ≢ x → but p x i ≡ p i
unfolding but
but_other p x i other = cond-false (eqb i x) false (p i) (ne_eqb i x other)

but_same : (p : ℕ → Bool) (x : ℕ) → but p x x ≡ false
unfolding but
but_same p x = cond-true (eqb x x) false (p x) (eq-eqb x x refl)

-- tests that agree below n let as many pass
pub count_agree : (p q : ℕ → Bool) (n : ℕ) → ((k : ℕ) → k < n → p k ≡ q k) → count_below p n ≡ count_below q n
count_agree p q zero same = refl
count_agree p q (suc n) same =
    ap₂ (λ count b. count + cond b 1 0) (count_agree p q n (λ k inside. same k (omega arith))) (same n (omega arith))

-- without one that passes there is one less
count_but : (p : ℕ → Bool) (x n : ℕ) → x < n → p x ≡ true → count_below p n ≡ suc (count_below (but p x) n)
count_but p x zero inside passes = absurd (omega arith)
count_but p x (suc n) inside passes = elim (cases_eq n x) [
  | inl at_it ↦
      let now : ◌≡◌ {A = ℕ} (cond (p n) 1 0) 1 = cond-true (p n) 1 0 (ap p at_it ∙ passes) in
      let none : ◌≡◌ {A = ℕ} (cond (but p x n) 1 0) 0 = cond-false (but p x n) 1 0 (ap (but p x) at_it ∙ but_same p x) in
      let before : count_below p n ≡ count_below (but p x) n =
      count_agree p (but p x) n (λ k below. sym (but_other p x k (λ e. omega (arith, at_it)))) in
      omega (arith, now, none, before)
  | inr other ↦
      let same : ◌≡◌ {A = ℕ} (cond (but p x n) 1 0) (cond (p n) 1 0) = ap (λ b. cond b 1 0) (but_other p x n other) in
      let before : count_below p n ≡ suc (count_below (but p x) n) = count_but p x n (omega (arith, other)) passes in
      omega (arith, same, before)
]

others_pass : (p : ℕ → Bool) (x : ℕ) (xs : List ℕ) → AllPairs (λ a b. a ≢ b) (x ∷ xs) → All (λ y. p y ≡ true) (x ∷ xs) → All (λ y. but p x y ≡ true) xs
others_pass p x xs apart passes k d inside =
    but_other p x (get_or xs k d) (λ e. apart 0 (suc k) d (omega arith) (omega arith) (sym e)) ∙ passes (suc k) d (omega arith)

pub pigeonhole : (p : ℕ → Bool) (n : ℕ) (xs : List ℕ) → AllPairs (λ a b. a ≢ b) xs → All (λ x. x < n) xs → All (λ x. p x ≡ true) xs
    → length xs ≤ count_below p n
pigeonhole p n [] apart below passes = omega arith
pigeonhole p n (x ∷ xs) apart below passes =
    let rest : length xs ≤ count_below (but p x) n =
    pigeonhole (but p x) n xs (λ i j d less inside. apart (suc i) (suc j) d (omega arith) (omega arith)) (All-tail (λ y. y < n) x xs below)
    (others_pass p x xs apart passes) in
    let one_less = count_but p x n (All-head (λ y. y < n) x xs below) (All-head (λ y. p y ≡ true) x xs passes) in
    omega (arith, rest, one_less)

all_or_one : (p : ℕ → Bool) (xs : List ℕ) → All (λ x. p x ≡ true) xs ⊎ ((x : ℕ) × In x xs × (p x ≡ false))
all_or_one p [] = inl (All-nil (λ x. p x ≡ true))
all_or_one p (x ∷ xs) = elim (cases_Bool (p x)) [
  | inl passes ↦ elim (all_or_one p xs) [
    | inl all ↦ inl (All-cons (λ y. p y ≡ true) x xs passes all)
    | inr one ↦ inr (one.0, there one.1, one.2)
  ]
  | inr fails ↦ inr (x, here refl, fails)
]

-- if distinct numbers below n are more than the numbers below n that pass a test, one of them fails it
pub some_fails : (p : ℕ → Bool) (n : ℕ) (xs : List ℕ) → AllPairs (λ a b. a ≢ b) xs → All (λ x. x < n) xs → count_below p n < length xs
    → (x : ℕ) × In x xs × (p x ≡ false)
some_fails p n xs apart below more = elim (all_or_one p xs) [
  | inl all ↦ let few = pigeonhole p n xs apart below all in absurd (omega (arith, few, more))
  | inr one ↦ one
]

one_of_two : (b : Bool) → cond b 1 0 + cond (not b) 1 0 ≡ 1
one_of_two true = refl
one_of_two false = refl

-- the numbers below n that pass a test and those that fail it are n together
pub count_not : (p : ℕ → Bool) (n : ℕ) → count_below p n + count_below (λ k. not (p k)) n ≡ n
count_not p zero = refl
count_not p (suc n) = let before = count_not p n in let last = one_of_two (p n) in omega (arith, before, last)

none_pass : (p : ℕ → Bool) (n : ℕ) → ((k : ℕ) → k < n → p k ≡ true → ⊥) → count_below p n ≡ 0
none_pass p zero none = refl
none_pass p (suc n) none =
    let before : count_below p n ≡ 0 = none_pass p n (λ k inside. none k (omega arith)) in
    elim (cases_Bool (p n)) [
      | inl passes ↦ absurd (none n (omega arith) passes)
      | inr fails ↦ let last : ◌≡◌ {A = ℕ} (cond (p n) 1 0) 0 = cond-false (p n) 1 0 fails in omega (arith, before, last)
    ]

at_most_one : (b : Bool) → cond b 1 0 ≤ 1
at_most_one true = omega arith
at_most_one false = omega arith

-- without one number, at most one less passes
count_without : (p : ℕ → Bool) (x n : ℕ) → count_below p n ≤ suc (count_below (but p x) n)
count_without p x zero = omega arith
count_without p x (suc n) = elim (cases_eq n x) [
  | inl at_it ↦
      let last = at_most_one (p n) in
      let before : count_below p n ≡ count_below (but p x) n =
      count_agree p (but p x) n (λ k below. sym (but_other p x k (λ e. omega (arith, at_it)))) in
      omega (arith, last, before)
  | inr other ↦
      let same : ◌≡◌ {A = ℕ} (cond (but p x n) 1 0) (cond (p n) 1 0) = ap (λ b. cond b 1 0) (but_other p x n other) in
      let before = count_without p x n in
      omega (arith, same, before)
]

in_others : (p : ℕ → Bool) (x k : ℕ) (xs : List ℕ) → but p x k ≡ true → (p k ≡ true → In k (x ∷ xs)) → In k xs
in_others p x k xs passes listed = elim (cases_eq k x) [
  | inl at_it ↦ absurd (true≢false (sym passes ∙ (ap (but p x) at_it ∙ but_same p x)))
  | inr other ↦ behind (listed (sym (but_other p x k other) ∙ passes)) other
]
  where
    behind : In k (x ∷ xs) → (k ≡ x → ⊥) → In k xs
    behind (here e) other = absurd (other (sym e))
    behind (there h) other = h

-- a list with each number below n that passes a test is at least as long as their count
pub covered : (p : ℕ → Bool) (n : ℕ) (xs : List ℕ) → ((k : ℕ) → k < n → p k ≡ true → In k xs) → count_below p n ≤ length xs
covered p n [] listed = let none = none_pass p n (λ k inside passes. elim (listed k inside passes) [ ]) in omega (arith, none)
covered p n (x ∷ xs) listed =
    let rest : count_below (but p x) n ≤ length xs =
    covered (but p x) n xs (λ k inside passes. in_others p x k xs passes (listed k inside)) in
    let one_less = count_without p x n in
    omega (arith, rest, one_less)

-- Lists of chains from which the same is kept: chains of other slots change nothing.
use Rattle.std.proofs.Common.{◌≡◌, ◌≢◌, ℕ, zero, suc, ◌<◌, ◌≤◌, List, [], ◌∷◌, ◌++◌, inl, inr, refl, ap, sym, ◌∙◌, arith}
use Rattle.std.proofs.lemmas.Bool.{cases_lt}
use Rattle.dsr_base.specs.Member.{In, here, there}
use Rattle.dsr_names.specs.Shape.{Shape}
use Rattle.dsr_chain.specs.Chain.{Chain}
use Rattle.dsr_slot.specs.declared.kept.Kept.{Kept}
use Rattle.dsr_slot.specs.Broadcast.{from_each}
use Rattle.dsr_slot.specs.Keeping.{keep_one, keep, kept_after}
use Rattle.dsr_slot.proofs.Lemmas.{skips_other_slots}

module _ (shape : Shape) (slot round : ℕ) where
  -- the same is kept from both lists, whatever was kept before
  abbrev pub AreAlike : List Chain → List Chain → Type 0
  AreAlike xs ys = (kept : List Kept) → keep shape slot round kept xs ≡ keep shape slot round kept ys

  keep_append : (xs ys : List Chain) (kept : List Kept)
      → keep shape slot round kept (xs ++ ys) ≡ keep shape slot round (keep shape slot round kept xs) ys
  keep_append [] ys kept = refl
  keep_append (x ∷ xs) ys kept = keep_append xs ys (keep_one shape slot round kept x)

  alike_append : (xs us ys vs : List Chain) → AreAlike xs us → AreAlike ys vs → AreAlike (xs ++ ys) (us ++ vs)
  alike_append xs us ys vs same more kept =
      keep_append xs ys kept
      ∙ (ap (λ ks. keep shape slot round ks ys) (same kept)
      ∙ (more (keep shape slot round kept us) ∙ sym (keep_append us vs kept)))

  -- if the lists of each poster are alike, so is what is read of all
  pub alike_each : (n : ℕ) (given other : ℕ → List Chain) → ((i : ℕ) → i < n → AreAlike (given i) (other i))
      → AreAlike (from_each n given) (from_each n other)
  alike_each zero given other same kept = refl
  alike_each (suc n) given other same kept =
      alike_append (from_each n given) (from_each n other) (given n) (other n)
      (alike_each n given other (λ i inside. same i (omega (arith, inside)))) (same n (omega arith)) kept

  -- chains of other slots change nothing
  alike_none : (xs : List Chain) → ((c : Chain) → In c xs → c.slot ≢ slot) → AreAlike xs []
  alike_none [] other kept = refl
  alike_none (x ∷ xs) other kept =
      ap (λ ks. keep shape slot round ks xs) (skips_other_slots shape slot round kept x (other x (here refl)))
      ∙ alike_none xs (λ c h. other c (there h)) kept

  -- if lists come slot by slot, only that of the slot counts
  alike_below : (n : ℕ) (part : ℕ → List Chain) → n ≤ slot → ((k : ℕ) (c : Chain) → In c (part k) → c.slot ≡ k)
      → AreAlike (from_each n part) []
  alike_below zero part low of_slot kept = refl
  alike_below (suc n) part low of_slot kept =
      keep_append (from_each n part) (part n) kept
      ∙ (alike_none (part n) (λ c h e. let at = of_slot n c h in omega (arith, low, at, e)) (keep shape slot round kept (from_each n part))
      ∙ alike_below n part (omega (arith, low)) of_slot kept)

  pub alike_one : (n : ℕ) (part : ℕ → List Chain) → slot < n → ((k : ℕ) (c : Chain) → In c (part k) → c.slot ≡ k)
      → AreAlike (from_each n part) (part slot)
  alike_one zero part inside of_slot kept = absurd (omega (arith, inside))
  alike_one (suc n) part inside of_slot kept = elim (cases_lt slot n) [
    | inl lower ↦
        keep_append (from_each n part) (part n) kept
        ∙ (alike_none (part n) (λ c h e. let at = of_slot n c h in omega (arith, lower, at, e)) (keep shape slot round kept (from_each n part))
        ∙ alike_one n part lower of_slot kept)
    | inr upper ↦
        let last : n ≡ slot = omega (arith, inside, upper) in
        keep_append (from_each n part) (part n) kept
        ∙ (ap (λ ks. keep shape slot round ks (part n)) (alike_below n part (omega (arith, last)) of_slot kept)
        ∙ ap (λ k. keep shape slot round kept (part k)) last)
  ]

-- so what is kept after the first rounds is the same if what is read in each of them is alike
pub kept_alike : (shape : Shape) (slot : ℕ) (read other : ℕ → List Chain) (rounds : ℕ)
    → ((r : ℕ) → r < rounds → AreAlike shape slot (suc r) (read (suc r)) (other (suc r)))
    → kept_after shape slot read rounds ≡ kept_after shape slot other rounds
kept_alike shape slot read other zero same = refl
kept_alike shape slot read other (suc r) same =
    same r (omega arith) (kept_after shape slot read r)
    ∙ ap (λ ks. keep shape slot (suc r) ks (other (suc r))) (kept_alike shape slot read other r (λ j inside. same j (omega (arith, inside))))

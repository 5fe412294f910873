-- What is in a list that was filtered, mapped, or made of the lists of several posters.
use Rattle.std.proofs.Common.{◌≡◌, ℕ, zero, suc, ◌<◌, Bool, true, false, List, [], ◌∷◌, map, if◌then◌else◌, ◌⊎◌, inl, inr, refl, ap, sym, ◌∙◌, subst, arith}
use Rattle.std.specs.Prelude.{filter}
use Rattle.std.specs.Bool.{Decides}
use Rattle.std.proofs.lemmas.Bool.{cases_lt}
use Rattle.dsr_base.specs.Member.{In, here, there}
use Rattle.dsr_base.proofs.MemberLemmas.{In-append_left, In-append_right, In-append_cases}
use Rattle.dsr_chain.specs.Chain.{Chain}
use Rattle.dsr_slot.specs.Broadcast.{from_each}

-- what a test decides holds or not
pub holds_or_not : {P : Type 0} (b : Bool) → Decides b P → P ⊎ (¬ P)
holds_or_not true d = inl (d.0 refl)
holds_or_not false d = inr (λ p. let e : false ≡ true = d.1 p in absurd cc)

-- what an `if` gives, by what its test decides
pub by_test : {P X : Type 0} (b : Bool) → Decides b P → (x y : X) → (P × ((if b then x else y) ≡ x)) ⊎ ((¬ P) × ((if b then x else y) ≡ y))
by_test true d x y = inl (d.0 refl, refl)
by_test false d x y = inr (λ p. let e : false ≡ true = d.1 p in absurd cc, refl)

module _ {X : Type 0} where
  -- the first item passes
  first_passes : (b : Bool) (x y : X) (ys : List X) → b ≡ true → y ≡ x → In x (if b then y ∷ ys else ys)
  first_passes true x y ys passes e = here e
  first_passes false x y ys passes e = absurd cc

  -- what is in the rest is behind the first item, whether that passes or not
  past_first : (b : Bool) (x y : X) (ys : List X) → In x ys → In x (if b then y ∷ ys else ys)
  past_first true x y ys h = there h
  past_first false x y ys h = h

  -- an item is behind the first one or is the first one, and this only if it passes
  first_or_past : (b : Bool) (x y : X) (ys : List X) → In x (if b then y ∷ ys else ys) → ((y ≡ x) × (b ≡ true)) ⊎ In x ys
  first_or_past true x y ys (here e) = inl (e, refl)
  first_or_past true x y ys (there h) = inr h
  first_or_past false x y ys h = inr h

  pub in_filter : (test : X → Bool) (x : X) (xs : List X) → In x xs → test x ≡ true → In x (filter test xs)
  in_filter test x [] h passes = elim h [ ]
  in_filter test x (y ∷ xs) (here e) passes = first_passes (test y) x y (filter test xs) (ap test e ∙ passes) e
  in_filter test x (y ∷ xs) (there h) passes = past_first (test y) x y (filter test xs) (in_filter test x xs h passes)

  pub from_filter : (test : X → Bool) (x : X) (xs : List X) → In x (filter test xs) → In x xs × (test x ≡ true)
  from_filter test x [] h = elim h [ ]
  from_filter test x (y ∷ xs) h = elim (first_or_past (test y) x y (filter test xs) h) [
    | inl first ↦ (here first.0, ap test (sym first.0) ∙ first.1)
    | inr later ↦ let found = from_filter test x xs later in (there found.0, found.1)
  ]

  pub in_map : {Y : Type 0} (f : X → Y) (x : X) (xs : List X) → In x xs → In (f x) (map f xs)
  in_map f x [] h = elim h [ ]
  in_map f x (y ∷ xs) (here e) = here (ap f e)
  in_map f x (y ∷ xs) (there h) = there (in_map f x xs h)

  pub from_map : {Y : Type 0} (f : X → Y) (y : Y) (xs : List X) → In y (map f xs) → (x : X) × In x xs × (f x ≡ y)
  from_map f y [] h = elim h [ ]
  from_map f y (x ∷ xs) (here e) = (x, here refl, e)
  from_map f y (x ∷ xs) (there h) = let found = from_map f y xs h in (found.0, there found.1, found.2)

-- what one of the posters gave is read
pub in_each : (c : Chain) (n : ℕ) (given : ℕ → List Chain) (i : ℕ) → i < n → In c (given i) → In c (from_each n given)
in_each c zero given i inside h = absurd (omega arith)
in_each c (suc n) given i inside h = elim (cases_lt i n) [
  | inl lower ↦ In-append_left c (from_each n given) (given n) (in_each c n given i lower h)
  | inr upper ↦
      let last : i ≡ n = omega arith in
      In-append_right c (from_each n given) (given n) (subst (λ j. In c (given j)) last h)
]

-- what is read was given by one of the posters
pub from_one : (c : Chain) (n : ℕ) (given : ℕ → List Chain) → In c (from_each n given) → (i : ℕ) × (i < n) × In c (given i)
from_one c zero given h = elim h [ ]
from_one c (suc n) given h = elim (In-append_cases c (from_each n given) (given n) h) [
  | inl before ↦ let found = from_one c n given before in let lower = found.1 in (found.0, omega arith, found.2)
  | inr last ↦ (n, omega arith, last)
]

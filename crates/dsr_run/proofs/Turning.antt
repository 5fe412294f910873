-- Turns: from clients in a ring those that wait are taken eight by eight, and each client's turn comes nearer; and when a
-- replica's own slots begin.
use Rattle.std.proofs.Common.{◌≡◌, ◌≢◌, ℕ, zero, suc, ◌+◌, ◌-◌, ◌*◌, ◌<◌, ◌≤◌, ◌==◌, nat_lt, Bool, true, false, List, [], ◌∷◌, Option, None, Some, if◌then◌else◌, ◌⊎◌, inl, inr, refl, ap, sym, ◌∙◌, arith}
use Rattle.std.specs.Prelude.{filter, take, reverse, ◌++◌, ◌%◌}
use Rattle.std.proofs.Math.Nat.{mod-eq_of_lt, add-mod_right}
use Rattle.std.proofs.lemmas.Bool.{cases_lt}
use Rattle.std.proofs.lemmas.Bool.Decides.{Decides-eqb, nat_tests}
use Rattle.std.proofs.lemmas.Grind.{div_ceil_times}
use Rattle.std.proofs.lemmas.List.{reverse-append}
use Rattle.std.proofs.lemmas.Nat.{mul-le}
use Rattle.dsr_base.specs.Member.{In, here, there}
use Rattle.dsr_slot.proofs.Lemmas.{holds_or_not}
use Rattle.dsr_run.specs.Answered.{turns}
use Rattle.dsr_run.specs.Eager.{first_or, next_client, in_turn, first_in_turn}

-- ---- whose turn it is

-- how many clients come before c in turn, from this one on
abbrev pub ahead : ℕ → ℕ → ℕ → ℕ
ahead m c a = if nat_lt c a then c + m - a else c - a

pub next_below : (m a : ℕ) → 0 < m → next_client m a < m
next_below m a some = grind (arith, nat_tests)

pub first_below : (m : ℕ) (last : Option ℕ) → 0 < m → first_in_turn m last < m
first_below m None some = some
first_below m (Some client) some = next_below m client some

pub ahead_below : (m c a : ℕ) → c < m → a < m → ahead m c a < m
ahead_below m c a inside low = grind (arith, nat_tests)

ahead_next : (m c a : ℕ) → c < m → a < m → a ≢ c → suc (ahead m c (next_client m a)) ≡ ahead m c a
ahead_next m c a inside low other = grind (arith, nat_tests)

-- ---- the first that wait

-- the last of a list that begins with a client is the last of the rest, or that client
last_put : (before : Option ℕ) (xs : List ℕ) (a : ℕ) → first_or before (xs ++ a ∷ []) ≡ first_or (Some a) xs
last_put before [] a = refl
last_put before (x ∷ xs) a = refl

last_of : (before : Option ℕ) (a : ℕ) (rest : List ℕ) → first_or before (reverse (a ∷ rest)) ≡ first_or (Some a) (reverse rest)
last_of before a rest = ap (first_or before) (reverse-append (a ∷ []) rest) ∙ last_put before (reverse rest) a

-- the last of these clients is so near to c that its successor is at least `many` places nearer than a
pub record IsNearer (m c many a : ℕ) (chosen : List ℕ) : Type 0 where
  pub last : ℕ
  pub is : (before : Option ℕ) → first_or before (reverse chosen) ≡ Some last
  pub near : ahead m c (next_client m last) + many ≤ ahead m c a

module _ (m c : ℕ) (inside : c < m) (waits : ℕ → Bool) (own : waits c ≡ true) where
  -- the clients that wait among `many` clients, from a on
  abbrev waiting : ℕ → ℕ → List ℕ
  waiting count a = filter waits (in_turn m count a)

  abbrev Comes : ℕ → ℕ → List ℕ → Type 0
  Comes k a chosen = In c chosen ⊎ IsNearer m c k a chosen

  -- c itself is next
  at_once : (k : ℕ) (a : ℕ) (rest : List ℕ) → a ≡ c → (b : Bool) → waits a ≡ b → In c (take (suc k) (if b then a ∷ rest else rest))
  at_once k a rest is true e = here is
  at_once k a rest is false e = let same : false ≡ true = sym e ∙ (ap waits is ∙ own) in absurd cc

  -- another one is next
  after_other : (a : ℕ) → a < m → a ≢ c → (rest : List ℕ) → ((k : ℕ) → Comes (suc k) (next_client m a) (take (suc k) rest))
      → (b : Bool) → (k : ℕ) → Comes (suc k) a (take (suc k) (if b then a ∷ rest else rest))
  after_other a low other rest before false k = elim (before k) [
    | inl now ↦ inl now
    | inr h ↦
        let step = ahead_next m c a inside low other in
        let near = h.near in
        inr (record { last = h.last; is = h.is; near = omega (arith, step, near) })
  ]
  after_other a low other rest before true zero =
      let step = ahead_next m c a inside low other in
      inr (record { last = a; is = λ before. refl; near = omega (arith, step) })
  after_other a low other rest before true (suc k) = elim (before k) [
    | inl now ↦ inl (there now)
    | inr h ↦
        let step = ahead_next m c a inside low other in
        let near = h.near in
        inr (record { last = h.last; is = λ before. last_of before a (take (suc k) rest) ∙ h.is (Some a); near = omega (arith, step, near) })
  ]

  -- of the waiting clients from a on, the first k+1 have c among them, or end k+1 places nearer to c
  pub comes : (count k a : ℕ) → a < m → ahead m c a < count → Comes (suc k) a (take (suc k) (waiting count a))
  comes zero k a low near = absurd (omega (arith, near))
  comes (suc count) k a low near = elim (holds_or_not (a == c) (Decides-eqb a c)) [
    | inl is ↦ inl (at_once k a (waiting count (next_client m a)) is (waits a) refl)
    | inr other ↦
        let step = ahead_next m c a inside low other in
        after_other a low other (waiting count (next_client m a))
        (λ j. comes count j (next_client m a) (next_below m a (omega (arith, inside))) (omega (arith, step, near))) (waits a) k
  ]

-- ---- when own slots begin

-- one of any n slots is the replica's own
pub own_slot : (n p : ℕ) → p < n → (at : ℕ) → (slot : ℕ) × (slot % n ≡ p) × (at ≤ slot) × (slot < at + n)
own_slot n p inside zero = (p, mod-eq_of_lt inside, omega arith, omega (arith, inside))
own_slot n p inside (suc at) =
    let before = own_slot n p inside at in
    let low = before.2 in
    let high = before.3 in
    elim (cases_lt at before.0) [
      | inl later ↦ (before.0, before.1, omega (arith, later), omega (arith, high))
      | inr now ↦ (before.0 + n, add-mod_right before.0 n ∙ before.1, omega (arith, low, inside), omega (arith, now, low))
    ]

-- if 8 clients were passed over in each of `past` own slots, one of the turns is left
pub turn_left : (m past : ℕ) → past * 8 < m → past < turns m
turn_left m past few = let most = (div_ceil_times m 8 (omega arith)).0 in omega (arith, few, most)

-- `past` turns of n slots and one more are at most `all` turns
pub slots_later : (n past all : ℕ) → past < all → n * past + n ≤ n * all
slots_later n past all before = let more = mul-le n (suc past) n all (omega arith) before in omega (arith, more)

-- The history is that of the loyal replica with the most closed slots: each loyal replica's is a prefix of it, it only grows, and
-- no number of a client is in it twice.
use Rattle.std.proofs.Common.{◌≡◌, ℕ, zero, suc, ◌<◌, ◌≤◌, nat_lt, Bool, true, false, List, [], ◌∷◌, ◌++◌, length, if◌then◌else◌, ◌⊎◌, inl, inr, refl, ap, sym, ◌∙◌, subst, append_assoc, arith}
use Rattle.std.specs.Prelude.{map}
use Rattle.std.proofs.lemmas.Bool.{cases_lt, false≢true}
use Rattle.std.proofs.lemmas.Bool.Decides.{Decides-ltb}
use Rattle.std.proofs.lemmas.List.{append-nil, map-append}
use Rattle.std.proofs.Common.{length-append}
use Rattle.dsr_base.specs.Growth.{Extends}
use Rattle.dsr_names.specs.Shape.{Shape, HasFewTraitors, is_traitor, IsLoyal}
use Rattle.dsr_names.specs.declared.actor.Actor.{Actor}
use Rattle.dsr_names.specs.declared.actor.Actor.TheVariants.{Replica}
use Rattle.dsr_history.specs.History.{acted, requests_of, IsLegal}
use Rattle.dsr_history.proofs.Lemmas.{acted_extends, legal_acting}
use Rattle.dsr_chain.specs.Content.{requests_in}
use Rattle.dsr_chain.specs.declared.slot_value.SlotValue.{SlotValue}
use Rattle.dsr_slot.proofs.Lemmas.{by_test}
use Rattle.dsr_replica.specs.Decided.{decided_requests}
use Rattle.dsr_replica.proofs.Lemmas.{decided_later}
use Rattle.dsr_run.specs.History.{decided_at, longer, most_decided, history}
use Rattle.dsr_run.specs.Run.{IsRun}
use Rattle.dsr_run.specs.Step.{Step, Logs, log_of}
use Rattle.dsr_run.proofs.Agreeing.{one_extends}
use Rattle.dsr_run.proofs.Logs.{log_loyal}

-- ---- lists that grow

pub extends_on : {A : Type 0} (last later first : List A) → Extends last later → Extends later first → Extends last first
extends_on last later first g h = (g.0 ++ h.0, g.1 ∙ (ap (λ xs. g.0 ++ xs) h.1 ∙ sym (append_assoc g.0 h.0 first)))

-- if one of two lists grew from the other, one that is at least as long is the later one
longer_is_later : {A : Type 0} (xs ys : List A) → length ys ≤ length xs → Extends xs ys ⊎ Extends ys xs → Extends xs ys
longer_is_later xs ys long (inl grown) = grown
longer_is_later xs ys long (inr ([], same)) = ([], sym same)
longer_is_later xs ys long (inr (z ∷ zs, grown)) =
    let count = length-append (z ∷ zs) xs in
    let same = ap length grown in
    absurd (omega (arith, long, count, same))

-- the longer one of two lists is one of them, and at least as long as each
pub longer_cases : {A : Type 0} (xs ys : List A) → ((length ys < length xs) × (longer xs ys ≡ xs)) ⊎ ((length xs ≤ length ys) × (longer xs ys ≡ ys))
longer_cases xs ys = elim (by_test (nat_lt (length ys) (length xs)) (Decides-ltb (length ys) (length xs)) xs ys) [
  | inl more ↦ inl (more.0, more.1)
  | inr fewer ↦ let not_more = fewer.0 in inr (omega (arith, not_more), fewer.1)
]

-- ---- the most that was decided

if_is : {A : Type 0} (b c : Bool) (x y : A) → b ≡ c → (if b then x else y) ≡ (if c then x else y)
if_is b c x y e = ap (λ z. if z then x else y) e

module _ (shape : Shape) (logs : Logs) where
  abbrev most : ℕ → List SlotValue
  most = most_decided shape logs

  -- a traitor counts for nothing, a loyal replica if it has decided more
  pub past_traitor : (p : ℕ) → is_traitor shape p ≡ true → most (suc p) ≡ most p
  past_traitor p traitor = if_is (is_traitor shape p) true (most p) (longer (decided_at shape logs p) (most p)) traitor

  pub past_loyal : (p : ℕ) → is_traitor shape p ≡ false → most (suc p) ≡ longer (decided_at shape logs p) (most p)
  past_loyal p loyal = if_is (is_traitor shape p) false (most p) (longer (decided_at shape logs p) (most p)) loyal

  -- these values are what one of the first replicas decided, a loyal one
  pub record IsFrom (values : List SlotValue) (count : ℕ) : Type 0 where
    pub replica : ℕ
    pub below : replica < count
    pub loyal : is_traitor shape replica ≡ false
    pub is : values ≡ decided_at shape logs replica

  still_from : (values others : List SlotValue) (count : ℕ) → others ≡ values → (values ≡ []) ⊎ IsFrom values count
      → (others ≡ []) ⊎ IsFrom others (suc count)
  still_from values others count e (inl none) = inl (e ∙ none)
  still_from values others count e (inr h) =
      let low = h.below in inr (record { replica = h.replica; below = omega (arith, low); loyal = h.loyal; is = e ∙ h.is })

  -- the most that was decided is what one loyal replica decided, or nothing
  pub most_from : (count : ℕ) → (most count ≡ []) ⊎ IsFrom (most count) count
  most_from zero = inl refl
  most_from (suc p) = by_bit (is_traitor shape p) refl (most_from p)
    where
      by_bit : (b : Bool) → is_traitor shape p ≡ b → (most p ≡ []) ⊎ IsFrom (most p) p → (most (suc p) ≡ []) ⊎ IsFrom (most (suc p)) (suc p)
      by_bit true traitor before = still_from (most p) (most (suc p)) p (past_traitor p traitor) before
      by_bit false loyal before = elim (longer_cases (decided_at shape logs p) (most p)) [
        | inl more ↦ inr (record { replica = p; below = omega arith; loyal = loyal; is = past_loyal p loyal ∙ more.1 })
        | inr fewer ↦ still_from (most p) (most (suc p)) p (past_loyal p loyal ∙ fewer.1) before
      ]

  -- no loyal replica has decided more
  pub most_long : (count q : ℕ) → q < count → is_traitor shape q ≡ false → length (decided_at shape logs q) ≤ length (most count)
  most_long zero q below loyal = absurd (omega (arith, below))
  most_long (suc p) q below loyal = by_bit (is_traitor shape p) refl (λ lower. most_long p q lower loyal)
    where
      at_last : q ≡ p → length (decided_at shape logs q) ≤ length (decided_at shape logs p)
      at_last e = let same = ap (λ z. length (decided_at shape logs z)) e in omega (arith, same)

      by_bit : (b : Bool) → is_traitor shape p ≡ b → (q < p → length (decided_at shape logs q) ≤ length (most p)) → length (decided_at shape logs q) ≤ length (most (suc p))
      by_bit true traitor earlier = elim (cases_lt q p) [
        | inl lower ↦
            let before = earlier lower in
            let same = ap length (past_traitor p traitor) in
            omega (arith, before, same)
        | inr upper ↦
            let last : q ≡ p = omega (arith, below, upper) in
            absurd (false≢true (sym loyal ∙ (ap (is_traitor shape) last ∙ traitor)))
      ]
      by_bit false other earlier = elim (longer_cases (decided_at shape logs p) (most p)) [
        | inl more ↦
            let same = ap length (past_loyal p other ∙ more.1) in
            let longest = more.0 in
            elim (cases_lt q p) [
              | inl lower ↦ let before = earlier lower in omega (arith, before, same, longest)
              | inr upper ↦ let last = at_last (omega (arith, below, upper)) in omega (arith, last, same)
            ]
        | inr fewer ↦
            let same = ap length (past_loyal p other ∙ fewer.1) in
            let longest = fewer.0 in
            elim (cases_lt q p) [
              | inl lower ↦ let before = earlier lower in omega (arith, before, same)
              | inr upper ↦ let last = at_last (omega (arith, below, upper)) in omega (arith, last, same, longest)
            ]
      ]

  -- the history is what one loyal replica has processed, or empty
  pub history_is : (history shape logs ≡ [])
      ⊎ ((p : ℕ) × IsLoyal shape (Replica p) × (history shape logs ≡ acted (decided_requests shape (logs (Replica p)))))
  history_is = elim (most_from shape.n) [
    | inl none ↦ inl (ap (λ vs. acted (map requests_in vs)) none)
    | inr h ↦ inr (h.replica, (h.below, h.loyal), ap (λ vs. acted (map requests_in vs)) h.is)
  ]

  -- no number of a client is in the history twice, whatever the logs
  pub history_legal : IsLegal (history shape logs)
  history_legal = legal_acting (requests_of (map requests_in (most shape.n)))

-- ---- in a run

-- more decided values make a longer history
pub acted_on : (later earlier : List SlotValue) → Extends later earlier → Extends (acted (map requests_in later)) (acted (map requests_in earlier))
acted_on later earlier grown =
    let parts = acted_extends (map requests_in grown.0) (map requests_in earlier) in
    (parts.0, ap (λ vs. acted (map requests_in vs)) grown.1 ∙ (ap acted (map-append requests_in grown.0 earlier) ∙ parts.1))

module _ (shape : Shape) (few : HasFewTraitors shape) (run : List Step) (is : IsRun shape run) where
  -- what any loyal replica decided is a prefix of the most that was decided
  pub most_extends : (p : ℕ) → IsLoyal shape (Replica p) → Extends (most_decided shape (log_of run) shape.n) (decided_at shape (log_of run) p)
  most_extends p loyal =
      let long = most_long shape (log_of run) shape.n p loyal.0 loyal.1 in
      elim (most_from shape (log_of run) shape.n) [
        | inl none ↦ longer_is_later (most_decided shape (log_of run) shape.n) (decided_at shape (log_of run) p) long (inr (from_none none))
        | inr h ↦
            longer_is_later (most_decided shape (log_of run) shape.n) (decided_at shape (log_of run) p) long
            (subst (λ vs. Extends vs (decided_at shape (log_of run) p) ⊎ Extends (decided_at shape (log_of run) p) vs) (sym h.is)
            (one_extends shape few run is h.replica p (h.below, h.loyal) loyal))
      ]
    where
      from_none : most_decided shape (log_of run) shape.n ≡ [] → Extends (decided_at shape (log_of run) p) (most_decided shape (log_of run) shape.n)
      from_none none =
          (decided_at shape (log_of run) p, sym (append-nil (decided_at shape (log_of run) p)) ∙ ap (λ vs. decided_at shape (log_of run) p ++ vs) (sym none))

  -- so its own history is a prefix of the history
  pub history_extends : (p : ℕ) → IsLoyal shape (Replica p) → Extends (history shape (log_of run)) (acted (decided_requests shape (log_of run (Replica p))))
  history_extends p loyal = acted_on (most_decided shape (log_of run) shape.n) (decided_at shape (log_of run) p) (most_extends p loyal)

  -- what these earlier logs decided is a prefix of what the run's logs decide
  most_grows : (earlier : Logs) → ((a : Actor) → Extends (log_of run a) (earlier a))
      → Extends (most_decided shape (log_of run) shape.n) (most_decided shape earlier shape.n)
  most_grows earlier grown = elim (most_from shape earlier shape.n) [
    | inl none ↦ (
      most_decided shape (log_of run) shape.n,
      sym (append-nil (most_decided shape (log_of run) shape.n)) ∙ ap (λ vs. most_decided shape (log_of run) shape.n ++ vs) (sym none),
    )
    | inr h ↦
        let some = some_replica h.replica h.below in
        subst (Extends (most_decided shape (log_of run) shape.n)) (sym h.is)
        (extends_on (most_decided shape (log_of run) shape.n) (decided_at shape (log_of run) h.replica) (decided_at shape earlier h.replica)
        (most_extends h.replica (h.below, h.loyal))
        (decided_later shape (Replica h.replica) some (log_of run (Replica h.replica)) (earlier (Replica h.replica))
        (log_loyal shape h.replica h.loyal run is) (grown (Replica h.replica))))
  ]
    where
      some_replica : (p : ℕ) → p < shape.n → 0 < shape.n
      some_replica p inside = omega (arith, inside)

  -- the history of such logs is a prefix of the history
  pub history_grows : (earlier : Logs) → ((a : Actor) → Extends (log_of run a) (earlier a)) → Extends (history shape (log_of run)) (history shape earlier)
  history_grows earlier grown =
      acted_on (most_decided shape (log_of run) shape.n) (most_decided shape earlier shape.n) (most_grows earlier grown)

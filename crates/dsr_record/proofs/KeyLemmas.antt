-- `all_keys`, and `all_parties` of the checker, take the keys of a shape one by one: which keys they have so far, and which they have not taken yet.
use Rattle.std.proofs.Common.{◌≡◌, ◌≢◌, ℕ, suc, ◌+◌, ◌≤◌, Bool, true, false, List, [], ◌∷◌, ◌++◌, length, length-append, inl, inr, ap, ◌∙◌, arith}
use Rattle.std.specs.Prelude.{Any}
use Rattle.std.proofs.lemmas.Bool.{cases_lt, false≢true}
use Rattle.std.proofs.lemmas.List.{get_or_append_left}
use Rattle.std.proofs.Math.Seq.{get_or-append_seam}
use Rattle.dsr_names.specs.Places.{place_of}
use Rattle.dsr_names.specs.Shape.{Shape, IsActor}
use Rattle.dsr_names.specs.declared.actor.Actor.{Actor}
use Rattle.dsr_names.specs.declared.actor.Actor.TheVariants.{Replica, Client}
use Rattle.dsr_names.proofs.PlaceLemmas.{same_place, place_below}
use Rattle.dsr_desk.specs.Keys.{Keys, is_taken}
use Rattle.dsr_record.specs.Keys.{HasAllKeys}
use Rattle.dsr_record.specs.Support.KeysBelow.{HasKeysBelow}

module _ (P : Actor → Type 0) where
  pub any_left : (xs : List Actor) (y : Actor) → Any P xs → Any P (xs ++ y ∷ [])
  any_left xs y h = (
    h.0,
    h.1,
    (let below = h.2 in omega (arith, below, length-append xs (y ∷ []))),
    get_or_append_left xs (y ∷ []) h.1 h.0 h.2 ∙ h.3,
    h.4,
  )

  pub any_last : (xs : List Actor) (y : Actor) → P y → Any P (xs ++ y ∷ [])
  any_last xs y p = (length xs, y, omega (arith, length-append xs (y ∷ [])), get_or-append_seam xs y [] y, p)

-- no key, and one more key

pub no_signers : (shape : Shape) → HasKeysBelow shape 0 []
no_signers shape a inside below = absurd (omega (arith, below))

pub one_signer : (shape : Shape) (k : ℕ) (keys : List Actor) (key who : Actor) → HasKeysBelow shape k keys → IsActor shape who
    → place_of shape who ≡ k → key ≡ who → HasKeysBelow shape (suc k) (keys ++ key ∷ [])
one_signer shape k keys key who are actor at is a inside below = elim (cases_lt (place_of shape a) k) [
  | inl earlier ↦ any_left (λ h. h ≡ a) keys key (are a inside earlier)
  | inr late ↦
      let same : place_of shape who ≡ place_of shape a = omega (arith, late, below, at) in
      any_last (λ h. h ≡ a) keys key (is ∙ same_place shape who a actor inside same)
]

pub all_sign : (shape : Shape) (keys : List Actor) → HasKeysBelow shape (shape.n + shape.m) keys → HasAllKeys shape keys
all_sign shape keys are a inside = are a inside (place_below shape a inside)

-- ---- keys that are not taken yet

abbrev number_of : Actor → ℕ
number_of (Replica p) = p
number_of (Client c) = c

abbrev is_replica : Actor → Bool
is_replica (Replica p) = true
is_replica (Client c) = false

module _ (k : ℕ) (older newer : Keys) where
  -- when a replica's key was taken, those of later replicas and of all clients were not
  pub later_replicas : ((other : Actor) → other ≢ Replica k → is_taken newer other ≡ is_taken older other)
      → ((q : ℕ) → k ≤ q → is_taken older (Replica q) ≡ false) → (q : ℕ) → k + 1 ≤ q → is_taken newer (Replica q) ≡ false
  later_replicas others untaken q above =
      others (Replica q) (λ e. let same = ap number_of e in omega (arith, same, above)) ∙ untaken q (omega (arith, above))

  pub all_clients : ((other : Actor) → other ≢ Replica k → is_taken newer other ≡ is_taken older other)
      → ((c : ℕ) → is_taken older (Client c) ≡ false) → (c : ℕ) → is_taken newer (Client c) ≡ false
  all_clients others untaken c = others (Client c) (λ e. false≢true (ap is_replica e)) ∙ untaken c

  -- when a client's key was taken, those of later clients were not
  pub later_clients : ((other : Actor) → other ≢ Client k → is_taken newer other ≡ is_taken older other)
      → ((c : ℕ) → k ≤ c → is_taken older (Client c) ≡ false) → (c : ℕ) → k + 1 ≤ c → is_taken newer (Client c) ≡ false
  later_clients others untaken c above =
      others (Client c) (λ e. let same = ap number_of e in omega (arith, same, above)) ∙ untaken c (omega (arith, above))

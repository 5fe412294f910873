-- A list of flags in which none is set.
use Rattle.std.proofs.Common.{◌≡◌, ℕ, ◌↔◌, Bool, true, false, List, length, sym, ◌∙◌, subst, inl, inr}
use Rattle.std.specs.Prelude.{All, IsTrue, slice_get, unwrap_or}
use Rattle.std.proofs.lemmas.Bool.{cases_lt}
use Rattle.std.proofs.lemmas.List.{get_or_past}
use Rattle.std.proofs.lemmas.List.Elements.{All-get_or, All-from_get_or}
use Rattle.std.proofs.lemmas.Option.{unwrap_or-slice_get}
use Rattle.dsr_names.specs.declared.actor.Actor.TheVariants.{Replica, Client}
use Rattle.dsr_desk.specs.Keys.{Keys, IsWhole}

abbrev pub IsUnset : List Bool → Type 0
IsUnset flags = All (λ flag. flag ≡ false) flags

unset_at : (flags : List Bool) → IsUnset flags → (place : ℕ) → unwrap_or (slice_get flags place) false ≡ false
unset_at flags h place =
    unwrap_or-slice_get flags place false
    ∙ elim (cases_lt place (length flags)) [
      | inl inside ↦ All-get_or (λ flag. flag ≡ false) flags place false inside h
      | inr past ↦ get_or_past flags place false past
    ]

unset_everywhere : (flags : List Bool) → ((place : ℕ) → unwrap_or (slice_get flags place) false ≡ false) → IsUnset flags
unset_everywhere flags h =
    All-from_get_or (λ flag. flag ≡ false) flags false (λ place inside. sym (unwrap_or-slice_get flags place false) ∙ h place)

whole_from_unset : (keys : Keys) → IsUnset keys.replicas → IsUnset keys.clients → IsWhole keys
whole_from_unset keys replicas clients (Replica r) = unset_at keys.replicas replicas r
whole_from_unset keys replicas clients (Client c) = unset_at keys.clients clients c

-- no replica's flag is set, and the test says whether a client's is
pub clients_decide : (keys : Keys) (replicas clients : List Bool) (first second : Bool) → replicas ≡ keys.replicas → clients ≡ keys.clients
    → (IsTrue first ↔ IsUnset replicas) → first ≡ true → (IsTrue second ↔ IsUnset clients) → IsTrue second ↔ IsWhole keys
clients_decide keys replicas clients first second same_replicas same_clients tests is_true decides = (
  λ t. whole_from_unset keys (subst IsUnset same_replicas (tests.0 is_true)) (subst IsUnset same_clients (decides.0 t)),
  λ whole. decides.1 (subst IsUnset (sym same_clients) (unset_everywhere keys.clients (λ place. whole (Client place)))),
)

-- the test of the replicas fails
pub replicas_decide : (keys : Keys) (replicas : List Bool) (first : Bool) → replicas ≡ keys.replicas
    → (IsTrue first ↔ IsUnset replicas) → first ≡ false → IsTrue first ↔ IsWhole keys
replicas_decide keys replicas first same_replicas tests is_false = (
  λ t. let contrary : ⊥ = cc in absurd contrary,
  λ whole. tests.1 (subst IsUnset (sym same_replicas) (unset_everywhere keys.replicas (λ place. whole (Replica place)))),
)

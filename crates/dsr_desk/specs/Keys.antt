-- The keys of a shape, and which of them were taken (this project).
use Rattle.std.specs.Prelude.{◌≡◌, Bool, false, List, slice_get, unwrap_or}
use Rattle.dsr_names.specs.Shape.{Shape}
use Rattle.dsr_names.specs.declared.actor.Actor.{Actor}
use Rattle.dsr_names.specs.declared.actor.Actor.TheVariants.{Replica, Client}

-- a shape, and for each of its replicas and each of its clients whether its key was taken
pub record Keys : Type 0 where
  pub shape : Shape
  pub replicas : List Bool
  pub clients : List Bool

-- whether the key of this actor was taken
abbrev pub is_taken : Keys → Actor → Bool
is_taken keys (Replica r) = unwrap_or (slice_get keys.replicas r) false
is_taken keys (Client c) = unwrap_or (slice_get keys.clients c) false

-- no key was taken
abbrev pub IsWhole : Keys → Type 0
IsWhole keys = (a : Actor) → is_taken keys a ≡ false

-- How seats come and go by the places of their actors (this project).
use Rattle.std.specs.Prelude.{◌≡◌, ◌⊎◌, ℕ, ◌<◌, ◌≤◌, ◌++◌, Bool, true, false, List, [], ◌∷◌, All, length, map, slice_index_or}
use Rattle.dsr_base.specs.Member.{In}
use Rattle.dsr_names.specs.Places.{size, place_of}
use Rattle.dsr_names.specs.Shape.{Shape, IsActor}
use Rattle.dsr_names.specs.declared.actor.Actor.{Actor}
use Rattle.dsr_envelope.specs.declared.entry.Entry.{Entry}
use Rattle.dsr_node.specs.Node.{Plays}
use Rattle.dsr_node.specs.declared.node.Node.{Node}
use Rattle.dsr_boxes.specs.Pass.{SharedBoxes, Pass, IsPassOf}
use Rattle.dsr_mail.specs.Seats.{actors_below, actors_of}

-- the pass if it is of this kind, else nothing
abbrev pub pass_if : Bool → Pass → List Pass
pass_if true pass = pass ∷ []
pass_if false pass = []

-- the seats of this kind that are left are those of the actors from this place on, one for each, by their places
pub record AreLeft (mail : SharedBoxes) (kind : Shape → Actor → Bool) (place : ℕ) (left : List Pass) : Type 0 where
  pub passes : All (IsPassOf mail) left
  pub actors : actors_below kind mail.shape place ++ map (λ seat. seat.actor) left ≡ actors_of kind mail.shape

-- the log at the place of the seat's actor is the seat's
pub record IsLogged (shape : Shape) (logs : List (List Entry)) (seat : Pass) : Type 0 where
  pub actor : IsActor shape seat.actor
  pub below : place_of shape seat.actor < length logs
  pub log : slice_index_or logs (place_of shape seat.actor) [] ≡ seat.log

-- each of the seats is left, or the log at its actor's place is the seat's
abbrev pub AreLeftOrLogged : Shape → List (List Entry) → List Pass → List Pass → Type 0
AreLeftOrLogged shape logs left seats = (seat : Pass) → In seat seats → In seat left ⊎ IsLogged shape logs seat

-- there are logs of the actors at the first places, and nodes that play them
pub record AreJoined (shape : Shape) (place : ℕ) (logs : List (List Entry)) (nodes : List Node) : Type 0 where
  pub logged : length logs ≡ place
  pub count : length nodes ≡ place
  pub each : (who : Actor) → IsActor shape who → place_of shape who < place → (d : Node)
      → Plays shape who (slice_index_or logs (place_of shape who) []) (slice_index_or nodes (place_of shape who) d)

-- there is room for something of each actor
abbrev pub IsRoomForAll : Shape → ℕ → Type 0
IsRoomForAll shape room = size shape ≤ room

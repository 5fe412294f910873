-- The seats of a mail (this project). A seat is seen as its pass: the boxes, the shape, the actor, and its log, the newest entry first.
use Rattle.std.specs.Prelude.{◌≡◌, ℕ, zero, suc, ◌++◌, not, Bool, true, false, List, [], ◌∷◌, All, map}
use Rattle.dsr_names.specs.Places.{size, actor_at}
use Rattle.dsr_names.specs.Shape.{Shape, is_traitor}
use Rattle.dsr_names.specs.declared.actor.Actor.{Actor}
use Rattle.dsr_names.specs.declared.actor.Actor.TheVariants.{Replica, Client}
use Rattle.dsr_envelope.specs.declared.entry.Entry.{Entry}
use Rattle.dsr_replica.specs.Conduct.{IsLoyalLog}
use Rattle.dsr_client.specs.Conduct.{IsClientLog}
use Rattle.dsr_boxes.specs.Pass.{SharedBoxes, Pass, IsPassOf}

-- the kinds of seats
abbrev pub is_loyal_replica : Shape → Actor → Bool
is_loyal_replica shape (Replica p) = not (is_traitor shape p)
is_loyal_replica shape (Client c) = false

abbrev pub is_traitor_replica : Shape → Actor → Bool
is_traitor_replica shape (Replica p) = is_traitor shape p
is_traitor_replica shape (Client c) = false

abbrev pub is_client : Shape → Actor → Bool
is_client shape (Replica p) = false
is_client shape (Client c) = true

-- the actor if it is of this kind, else nothing
abbrev pub actor_if : Bool → Actor → List Actor
actor_if true a = a ∷ []
actor_if false a = []

-- the actors of this kind at the lowest places, by their places
abbrev pub actors_below : (Shape → Actor → Bool) → Shape → ℕ → List Actor
actors_below kind shape zero = []
actors_below kind shape (suc place) = actors_below kind shape place ++ actor_if (kind shape (actor_at shape place)) (actor_at shape place)

-- all actors of this kind
abbrev pub actors_of : (Shape → Actor → Bool) → Shape → List Actor
actors_of kind shape = actors_below kind shape (size shape)

-- the seats are those of a mail for the actors of this kind, one for each, by their places
abbrev pub AreSeatsOf : SharedBoxes → (Shape → Actor → Bool) → List Pass → Type 0
AreSeatsOf mail kind seats = All (IsPassOf mail) seats × (map (λ seat. seat.actor) seats ≡ actors_of kind mail.shape)

-- the log keeps the conduct of a loyal actor: a replica's or a client's
abbrev pub KeepsLog : Shape → Actor → List Entry → Type 0
KeepsLog shape (Replica p) log = IsLoyalLog shape (Replica p) log
KeepsLog shape (Client c) log = IsClientLog shape c log

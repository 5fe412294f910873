-- The places of a shape's actors in one row: replicas first, then clients (this project).
use Rattle.std.specs.Prelude.{ℕ, ◌+◌, ◌-◌, nat_lt, if◌then◌else◌}
use Rattle.dsr_names.specs.Shape.{Shape}
use Rattle.dsr_names.specs.declared.actor.Actor.{Actor}
use Rattle.dsr_names.specs.declared.actor.Actor.TheVariants.{Replica, Client}

-- the number of actors
abbrev pub size : Shape → ℕ
size shape = shape.n + shape.m

-- the place of an actor
abbrev pub place_of : Shape → Actor → ℕ
place_of shape (Replica p) = p
place_of shape (Client c) = shape.n + c

-- the actor at a place
abbrev pub actor_at : Shape → ℕ → Actor
actor_at shape place = if nat_lt place shape.n then Replica place else Client (place - shape.n)

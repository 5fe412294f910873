-- When `==` holds for two actors: exactly if they are equal.
use Rattle.std.specs.Prelude.{◌≡◌, Bool}
use Rattle.std.specs.Bool.{Decides}
use Rattle.std.proofs.Common.{rules}
use Rattle.dsr_names.specs.declared.actor.Actor.{Actor}
use Rattle.dsr_names.specs.contracts.actor.ActorPartialEq.TheImpl.{ghosts}

-- whether `==` holds for two actors
abbrev pub actor_eq : Actor → Actor → Bool
actor_eq = ghosts.eq

-- it holds exactly for equal actors
pub actor_eq-Decides : (a b : Actor) → Decides (actor_eq a b) (a ≡ b)
actor_eq-Decides a b = search rules

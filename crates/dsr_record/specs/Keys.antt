-- Which keys a notary has (this project).
use Rattle.std.specs.Prelude.{◌≡◌, List, Any}
use Rattle.dsr_names.specs.Shape.{Shape, IsActor}
use Rattle.dsr_names.specs.declared.actor.Actor.{Actor}

-- each actor of the shape has a key among these
abbrev pub HasAllKeys : Shape → List Actor → Type 0
HasAllKeys shape keys = (a : Actor) → IsActor shape a → Any (λ holder. holder ≡ a) keys

-- Which keys `all_keys` has made so far.
use Rattle.std.specs.Prelude.{◌≡◌, ◌<◌, ℕ, List, Any}
use Rattle.dsr_names.specs.Places.{place_of}
use Rattle.dsr_names.specs.Shape.{Shape, IsActor}
use Rattle.dsr_names.specs.declared.actor.Actor.{Actor}

-- each actor at one of the first `k` places has a key among these
abbrev pub HasKeysBelow : Shape → ℕ → List Actor → Type 0
HasKeysBelow shape k keys = (a : Actor) → IsActor shape a → place_of shape a < k → Any (λ holder. holder ≡ a) keys

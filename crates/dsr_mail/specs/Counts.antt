-- How a seat counts what it posted (this project).
use Rattle.std.specs.Prelude.{◌≡◌, ℕ, List, length, slice_index_or}
use Rattle.dsr_names.specs.Places.{size, place_of}
use Rattle.dsr_names.specs.Shape.{Shape, IsActor}
use Rattle.dsr_names.specs.declared.actor.Actor.{Actor}
use Rattle.dsr_envelope.specs.declared.entry.Entry.{Entry}
use Rattle.dsr_envelope.specs.Log.{posted_to}

-- the number at the place of each actor of the shape counts the envelopes that this log posts to it
pub record AreCounts (shape : Shape) (log : List Entry) (posts : List ℕ) : Type 0 where
  pub count : length posts ≡ size shape
  pub each : (a : Actor) → IsActor shape a → (d : ℕ) → slice_index_or posts (place_of shape a) d ≡ length (posted_to a log)

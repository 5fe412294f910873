-- How nodes represent the logs of all actors (this project).
use Rattle.std.specs.Prelude.{◌≡◌, List, length, slice_index_or}
use Rattle.dsr_names.specs.Places.{size, place_of}
use Rattle.dsr_names.specs.Shape.{Shape, IsActor}
use Rattle.dsr_names.specs.declared.actor.Actor.{Actor}
use Rattle.dsr_node.specs.Node.{Plays}
use Rattle.dsr_node.specs.declared.node.Node.{Node}
use Rattle.dsr_run.specs.Step.{Logs}

-- each actor of the shape has a node at its place that plays it over its log
pub record ArePlayed (shape : Shape) (logs : Logs) (nodes : List Node) : Type 0 where
  pub count : length nodes ≡ size shape
  pub each : (who : Actor) → IsActor shape who → (d : Node) → Plays shape who (logs who) (slice_index_or nodes (place_of shape who) d)

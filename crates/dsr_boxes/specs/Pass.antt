-- What callers see of the boxes that threads share and of an actor's pass to them (this project).
use Rattle.std.specs.Prelude.{◌≡◌, ℕ, zero, suc, List, [], ◌∷◌, ◌++◌, if◌then◌else◌}
use Rattle.atomic_table.specs.Seated.{TableId}
use Rattle.dsr_names.specs.Places.{actor_at}
use Rattle.dsr_names.specs.Shape.{Shape}
use Rattle.dsr_names.specs.declared.actor.Actor.{Actor}
use Rattle.dsr_envelope.specs.declared.envelope.Envelope.{Envelope}
use Rattle.dsr_envelope.specs.declared.entry.Entry.{Entry}
use Rattle.dsr_envelope.specs.declared.entry.Entry.TheVariants.{Take}
use Rattle.dsr_node.specs.Conduct.{is_actor}
use Rattle.dsr_run.specs.OwnStep.{KeepsOwn}
use Rattle.dsr_run.specs.Run.{AreLogs}
use Rattle.dsr_run.specs.Step.{Logs}
use Rattle.dsr_boxes.specs.Rule.{log_at}

-- the boxes between the actors of a shape; the id tells them from all other boxes
pub record SharedBoxes : Type 0 where
  pub id : TableId
  pub shape : Shape

-- the pass of one actor to some boxes, with the actor's log, the newest entry first
pub record Pass : Type 0 where
  pub id : TableId
  pub shape : Shape
  pub actor : Actor
  pub log : List Entry

-- the logs that came back from actors of the lowest places, the highest place first
pub record Returned : Type 0 where
  pub id : TableId
  pub shape : Shape
  pub logs : List (List Entry)

-- the pass is one to these boxes
abbrev pub IsPassOf : SharedBoxes → Pass → Type 0
IsPassOf boxes pass = (pass.id ≡ boxes.id) × (pass.shape ≡ boxes.shape)

-- the logs came back from these boxes
abbrev pub IsReturnedTo : SharedBoxes → Returned → Type 0
IsReturnedTo boxes returned = (returned.id ≡ boxes.id) × (returned.shape ≡ boxes.shape)

-- the pass with one entry more in its log
abbrev pub with_entry : Pass → Entry → Pass
with_entry pass entry = record pass { log = entry ∷ pass.log }

-- the pass of an actor that has done nothing
abbrev pub new_pass : SharedBoxes → Actor → Pass
new_pass boxes actor = record { id = boxes.id; shape = boxes.shape; actor = actor; log = [] }

-- new passes of the actors of the places below this number, in order of place
abbrev pub new_passes : SharedBoxes → ℕ → List Pass
new_passes boxes zero = []
new_passes boxes (suc place) = new_passes boxes place ++ new_pass boxes (actor_at boxes.shape place) ∷ []

-- by its own log the actor may take from the other, whatever the envelope
abbrev pub MayTake : Shape → Actor → List Entry → Actor → Type 0
MayTake shape me log from = (envelope : Envelope) → KeepsOwn shape me log (Take from envelope)

-- there is a run in which this is the actor's log: what is true of the logs of every run is true of these
pub record IsInRun (shape : Shape) (actor : Actor) (log : List Entry) : Type 0 where
  pub logs : Logs
  pub are : AreLogs shape logs
  pub own : logs actor ≡ log

-- these logs as a function of actors: an actor outside the shape has done nothing
abbrev pub logs_in : Shape → List (List Entry) → Logs
logs_in shape logs a = if is_actor shape a then log_at shape logs a else []

-- What each atomic step does to the boxes, and to the run (this project).
use Rattle.std.specs.Prelude.{◌≡◌, ℕ, List, ◌++◌, ◌<◌, length, slice_index}
use mathlib.Core.Option.{some}
use lib.ListN.{get_elem?}
use Rattle.dsr_names.specs.Places.{place_of}
use Rattle.dsr_names.specs.Shape.{Shape, IsActor}
use Rattle.dsr_names.specs.declared.actor.Actor.{Actor}
use Rattle.dsr_envelope.specs.declared.entry.Entry.{Entry}
use Rattle.dsr_envelope.specs.Log.{posted_to, taken_from}
use Rattle.dsr_run.specs.Run.{AreLogs}
use Rattle.dsr_run.specs.Step.{Step, Logs}
use Rattle.dsr_boxes.specs.declared.view.Doing.{Doing}
use Rattle.dsr_boxes.specs.Box.{IsBox}
use Rattle.dsr_boxes.specs.Place.{word_of}
use Rattle.dsr_boxes.specs.Rule.{Table, Kept, log_at}
use Rattle.dsr_boxes.specs.declared.view.View.{View}
use Rattle.dsr_boxes.specs.View.{sitting, keeping}

-- at this moment these are the logs of a run: the pass of one actor has its actor's log, what represents several actors has theirs, and each box's
-- word agrees with what was posted there and taken
pub record IsMoment (shape : Shape) (table : Table) (logs : Logs) : Type 0 where
  pub are : AreLogs shape logs
  pub own : (i : ℕ) (me : Actor) (log : List Entry) (doing : Doing) → get_elem? table.views i ≡ some (sitting shape me log doing) → logs me ≡ log
  pub shared : (i : ℕ) (kept : List (List Entry)) → get_elem? table.views i ≡ some (keeping shape kept)
      → (a : Actor) → IsActor shape a → place_of shape a < length kept → logs a ≡ log_at shape kept a
  pub boxes : (a b : Actor) → IsActor shape a → IsActor shape b → IsBox (slice_index table.words (word_of shape a b)) (posted_to b (logs a)) (taken_from a (logs b))

-- the boxes after a step keep the rule too, and these steps were added to the run
abbrev pub GoesOn : (shape : Shape) (table : Table) → Kept shape table → Table → List Step → Type 0
GoesOn shape table kept after steps = (next : Kept shape after) × (next.run ≡ steps ++ kept.run)

-- the boxes with other views
abbrev pub with_views : Table → List View → Table
with_views table views = record table { views = views }

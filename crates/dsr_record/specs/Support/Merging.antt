-- How the fields of a merge of logs represent it (this project).
use Rattle.std.specs.List.{sum_by}
use Rattle.std.specs.Prelude.{◌≡◌, ℕ, ◌<◌, ◌++◌, List, [], ◌∷◌, Option, None, Some, All, length, reverse, slice_index_or}
use Rattle.dsr_base.specs.Boxes.{AreSquare, box_at}
use Rattle.dsr_base.specs.declared.boxes.MailBox.{MailBox}
use Rattle.dsr_names.specs.Places.{size, place_of}
use Rattle.dsr_names.specs.Shape.{Shape, IsActor}
use Rattle.dsr_names.specs.declared.actor.Actor.{Actor}
use Rattle.dsr_envelope.specs.declared.entry.Entry.{Entry}
use Rattle.dsr_envelope.specs.declared.envelope.Envelope.{Envelope}
use Rattle.dsr_envelope.specs.Log.{posted_to, taken_from}
use Rattle.dsr_run.specs.Run.{AreLogs, KeepsBox, KeepsLimits, other_of}
use Rattle.dsr_run.specs.Step.{Step, Logs, log_of}
use Rattle.dsr_mail.specs.Logs.{logs_of}
use Rattle.dsr_record.specs.Merge.{IsMerge, HasTurn, IsStuck}
use Rattle.dsr_record.specs.RecordText.{IsSpelledStep}
use Rattle.dsr_record.specs.declared.mailboxes.Held.{Held}
use Rattle.dsr_record.specs.declared.merging.Rest.{Rest}
use Rattle.dsr_record.specs.declared.merging.Merging.{Merging}

-- the list of what a box holds: one envelope or nothing
abbrev pub held_in : Option Held → List Envelope
held_in None = []
held_in (Some held) = held.envelope.now ∷ []

-- the box is as these posts and takes have left it
pub record IsBoxOf (box : MailBox Held) (posted taken : List Envelope) : Type 0 where
  pub count : box.posts ≡ length posted
  pub holds : posted ≡ taken ++ held_in box.item

-- the boxes are as the logs have left them
pub record AreBoxes (shape : Shape) (logs : Logs) (rows : List (List (MailBox Held))) : Type 0 where
  pub square : AreSquare (size shape) rows
  pub each : (from to : Actor) → IsActor shape from → IsActor shape to
      → IsBoxOf (box_at rows (place_of shape from) (place_of shape to)) (posted_to to (logs from)) (taken_from from (logs to))

-- the entry can go on by the boxes, which are as some steps have left them
pub record CanMove (shape : Shape) (rows : List (List (MailBox Held))) (actor : Actor) (entry : Entry) : Type 0 where
  pub run : List Step
  pub boxes : AreBoxes shape (log_of run) rows
  pub is_actor : IsActor shape actor
  pub other : IsActor shape (other_of entry)
  pub box : KeepsBox (log_of run) actor entry
  pub limits : KeepsLimits (log_of run) actor entry

-- for each actor there is a rest of its log, at its place: what is not merged of it
pub record AreRests (shape : Shape) (logs merged : Logs) (rests : List Rest) : Type 0 where
  pub count : length rests ≡ size shape
  pub each : (a : Actor) → IsActor shape a → (d : Rest) → logs a ≡ reverse (slice_index_or rests (place_of shape a) d).entries.now ++ merged a

-- during the making of the rests: the actors at the first `k` places have rests, and nothing of their logs is merged
pub record AreRestsBelow (shape : Shape) (k : ℕ) (logs : Logs) (rests : List Rest) : Type 0 where
  pub count : length rests ≡ k
  pub each : (a : Actor) → IsActor shape a → place_of shape a < k → (d : Rest)
      → logs a ≡ reverse (slice_index_or rests (place_of shape a) d).entries.now ++ []

-- logs of a run are merged by these steps, with these rests and boxes
pub record IsMerging (shape : Shape) (logs : Logs) (merged : List Step) (rests : List Rest) (rows : List (List (MailBox Held))) : Type 0 where
  pub are : AreLogs shape logs
  pub merge : IsMerge shape logs merged
  pub left : AreRests shape logs (log_of merged) rests
  pub boxes : AreBoxes shape (log_of merged) rows

-- the steps that are merged, newest first
abbrev pub merged_of : Merging → List Step
merged_of m = reverse m.steps.items

-- the fields represent a merge of the logs, and texts can write its steps
pub record Stands (m : Merging) : Type 0 where
  pub merging : IsMerging m.logs.now.shape (logs_of m.logs.now) (merged_of m) m.rests.items m.boxes
  pub spelled : All IsSpelledStep m.steps.items

-- it is the actor's turn
abbrev pub HasTurnIn : Merging → Actor → Type 0
HasTurnIn m actor = HasTurn m.logs.now.shape (logs_of m.logs.now) (merged_of m) actor

-- nobody's next entry can go on
abbrev pub IsStuckIn : Merging → Type 0
IsStuckIn m = IsStuck m.logs.now.shape (logs_of m.logs.now) (merged_of m)

-- how many entries are not merged yet
abbrev pub left_of : Merging → ℕ
left_of m = sum_by (λ rest. length rest.entries.now) m.rests.items

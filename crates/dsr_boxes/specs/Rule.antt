-- The rule of the boxes that threads share (this project): whatever the threads do, there is a run, whose logs are those in their passes' views, and
-- each box is as these logs say.
use Rattle.std.specs.Prelude.{◌≡◌, ℕ, zero, suc, ◌+◌, ◌*◌, ◌<◌, List, [], ◌∷◌, ◌++◌, Option, None, Some, length, replicate, reverse, slice_index, slice_index_or}
use mathlib.Core.Option.{some}
use mathlib.Core.Option as maybe
use lib.ListN.{get_elem?}
use Rattle.atomic_table.specs.Table.{State}
use Rattle.dsr_base.specs.Growth.{Extends}
use Rattle.dsr_names.specs.Places.{size, place_of}
use Rattle.dsr_names.specs.Shape.{Shape, IsAllowed, IsActor}
use Rattle.dsr_names.specs.declared.actor.Actor.{Actor}
use Rattle.dsr_envelope.specs.declared.envelope.Envelope.{Envelope}
use Rattle.dsr_envelope.specs.declared.entry.Entry.{Entry}
use Rattle.dsr_envelope.specs.Log.{posted_to, taken_from}
use Rattle.dsr_run.specs.Run.{IsRun}
use Rattle.dsr_run.specs.Step.{Step, log_of}
use Rattle.dsr_boxes.specs.declared.view.Doing.{Doing}
use Rattle.dsr_boxes.specs.declared.view.Doing.TheVariants.{Resting, Filling, Emptying, Recalling}
use Rattle.dsr_boxes.specs.declared.view.Part.{Part}
use Rattle.dsr_boxes.specs.declared.view.Part.TheVariants.{Keeping, Sitting, Watching}
use Rattle.dsr_boxes.specs.declared.view.View.{View}
use Rattle.dsr_boxes.specs.Place.{slot_of, word_of}
use Rattle.dsr_boxes.specs.View.{keeping}

-- the data of all boxes: the words, the slots that nobody holds, and the views of all passes
abbrev pub Table : Type 0
Table = State (Option Envelope) View

-- the log of an actor among those of the lowest places, the highest place first
abbrev pub log_at : Shape → List (List Entry) → Actor → List Entry
log_at shape logs a = slice_index_or (reverse logs) (place_of shape a) []

-- the view of all actors before any step
abbrev pub first_view : Shape → View
first_view shape = keeping shape (replicate (size shape) [])

-- the view represents this actor
abbrev pub IsOf : Shape → Part → Actor → Type 0
IsOf shape (Keeping logs) a = IsActor shape a × (place_of shape a < length logs)
IsOf shape (Sitting me log doing) a = me ≡ a
IsOf shape (Watching logs moments) a = IsActor shape a × (place_of shape a < length logs)

-- what an actor does between two steps of a run agrees with its box's word: 1 while it fills the box, 3 while it empties it. The moment that it was
-- shown is a past of the run
abbrev pub IsDoing : Shape → List ℕ → List Step → Actor → Doing → Type 0
IsDoing shape words run me Resting = Unit {0}
IsDoing shape words run me (Filling to) = IsActor shape to × (slice_index words (word_of shape me to) ≡ 1)
IsDoing shape words run me (Emptying from) = IsActor shape from × (slice_index words (word_of shape from me) ≡ 3)
IsDoing shape words run me (Recalling past) = Extends run past

-- each of these is a past of the run: the run is that past, with newer steps
abbrev pub ArePast : List Step → List (List Step) → Type 0
ArePast run [] = Unit {0}
ArePast run (past ∷ moments) = Extends run past × ArePast run moments

-- in the run, the actors of the lowest places have these logs
abbrev pub HasLogs : Shape → List Step → List (List Entry) → Type 0
HasLogs shape run kept = (a : Actor) → IsActor shape a → place_of shape a < length kept → log_of run a ≡ log_at shape kept a

-- the view has the logs of its actors in the run. The view of one actor is that of an actor of the shape, and its box's word shows what it does. Each
-- moment that a view knows is a past of the run
abbrev pub Stands : Shape → List ℕ → List Step → Part → Type 0
Stands shape words run (Keeping kept) = HasLogs shape run kept
Stands shape words run (Sitting me log doing) = IsActor shape me × (log_of run me ≡ log) × IsDoing shape words run me doing
Stands shape words run (Watching kept moments) = HasLogs shape run kept × ArePast run moments

-- a box's word agrees with what was posted there, what was taken, and the content of its slot unless someone holds the slot. 0: all that was posted
-- was taken, and the slot is empty; 2: one envelope was not taken, and is in the slot; 1, while its poster fills it, and 3, while its taker empties
-- it: all was taken. The word never has another value
abbrev pub Agrees : ℕ → List Envelope → List Envelope → maybe.Option (maybe.Option (Option Envelope)) → Type 0
Agrees zero posted taken home = (posted ≡ taken) × (home ≡ some (some None))
Agrees (suc zero) posted taken home = posted ≡ taken
Agrees (suc (suc zero)) posted taken home = (envelope : Envelope) × (posted ≡ taken ++ envelope ∷ []) × (home ≡ some (some (Some envelope)))
Agrees (suc (suc (suc zero))) posted taken home = posted ≡ taken
Agrees (suc (suc (suc (suc more)))) posted taken home = ⊥

-- the first four words hold the shape
pub record IsHead (shape : Shape) (words : List ℕ) : Type 0 where
  pub n : slice_index words 0 ≡ shape.n
  pub f : slice_index words 1 ≡ shape.f
  pub m : slice_index words 2 ≡ shape.m
  pub traitors : slice_index words 3 ≡ shape.traitors

-- the rule: there is a run, each view has its actors' logs in it, no two views represent one actor, and each box agrees with what was posted there
-- and taken; besides, the shape is within the limits, the words begin with it, and there is a word and a slot for each box
pub record Kept (shape : Shape) (table : Table) : Type 0 where
  pub allowed : IsAllowed shape
  pub run : List Step
  pub is : IsRun shape run
  pub head : IsHead shape table.words
  pub wide : length table.words ≡ 4 + size shape * size shape
  pub deep : length table.homes ≡ size shape * size shape
  pub stand : (i : ℕ) (v : View) → get_elem? table.views i ≡ some v → Stands shape table.words run v.part
  pub apart : (i j : ℕ) (v w : View) (a : Actor) → get_elem? table.views i ≡ some v → get_elem? table.views j ≡ some w
      → IsOf shape v.part a → IsOf shape w.part a → i ≡ j
  pub boxes : (a b : Actor) → IsActor shape a → IsActor shape b
      → Agrees (slice_index table.words (word_of shape a b)) (posted_to b (log_of run a)) (taken_from a (log_of run b)) (get_elem? table.homes (slot_of shape a b))

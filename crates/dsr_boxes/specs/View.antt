-- What each pass knows of the boxes, and what it holds of them (this project). No code makes a value of it: it is for proofs.
use Rattle.std.specs.Prelude.{ℕ, List, [], ◌∷◌, Option, None, Some}
use Rattle.atomic_table.specs.Table.{Me}
use Rattle.dsr_names.specs.Shape.{Shape}
use Rattle.dsr_names.specs.declared.actor.Actor.{Actor}
use Rattle.dsr_names.specs.declared.actor.Actor.TheVariants.{Replica}
use Rattle.dsr_envelope.specs.declared.envelope.Envelope.{Envelope}
use Rattle.dsr_envelope.specs.declared.envelope.Envelope.TheVariants.{Empty}
use Rattle.dsr_envelope.specs.declared.entry.Entry.{Entry}
use Rattle.dsr_boxes.specs.declared.view.Doing.{Doing}
use Rattle.dsr_run.specs.Step.{Step}
use Rattle.dsr_boxes.specs.declared.view.Doing.TheVariants.{Resting, Filling, Emptying, Recalling}
use Rattle.dsr_boxes.specs.declared.view.Part.{Part}
use Rattle.dsr_boxes.specs.declared.view.Part.TheVariants.{Keeping, Sitting, Watching}
use Rattle.dsr_boxes.specs.declared.view.View.{View}
use Rattle.dsr_boxes.specs.Place.{slot_of}

-- a view, and the slots that its pass holds, each with the envelope in it
abbrev pub Holding : Type 0
Holding = Me (Option Envelope) View

-- the view of one actor with this log
abbrev pub sitting : Shape → Actor → List Entry → Doing → View
sitting shape me log doing = record { shape = shape; part = Sitting me log doing }

-- the view of the actors of the lowest places, one for each log; the log of the highest place comes first
abbrev pub keeping : Shape → List (List Entry) → View
keeping shape logs = record { shape = shape; part = Keeping logs }

-- the view of the actors of these logs that knows these past moments of the run
abbrev pub watching : Shape → List (List Entry) → List (List Step) → View
watching shape logs moments = record { shape = shape; part = Watching logs moments }

-- the actor of a view of one actor; for other views it means nothing
abbrev pub actor_in : Part → Actor
actor_in (Keeping logs) = Replica 0
actor_in (Sitting me log doing) = me
actor_in (Watching logs moments) = Replica 0

-- the log in a view of one actor; empty for other views
abbrev pub log_in : Part → List Entry
log_in (Keeping logs) = []
log_in (Sitting me log doing) = log
log_in (Watching logs moments) = []

-- the logs in a view of several actors; none for a view of one actor
abbrev pub logs_kept : Part → List (List Entry)
logs_kept (Keeping logs) = logs
logs_kept (Sitting me log doing) = []
logs_kept (Watching logs moments) = logs

-- the past moments that a view knows, the last one that it was shown first
abbrev pub moments_in : Part → List (List Step)
moments_in (Keeping logs) = []
moments_in (Sitting me log Resting) = []
moments_in (Sitting me log (Filling to)) = []
moments_in (Sitting me log (Emptying from)) = []
moments_in (Sitting me log (Recalling past)) = past ∷ []
moments_in (Watching logs moments) = moments

-- the first of these moments, or the moment of no step if the list is empty
abbrev pub first_moment : List (List Step) → List Step
first_moment [] = []
first_moment (past ∷ moments) = past

-- the past moment that a view was shown last
abbrev pub moment_in : Part → List Step
moment_in part = first_moment (moments_in part)

-- the other end of the box that an actor fills or empties; for other views it means nothing
abbrev pub end_in : Part → Actor
end_in (Keeping logs) = Replica 0
end_in (Sitting me log Resting) = me
end_in (Sitting me log (Filling to)) = to
end_in (Sitting me log (Emptying from)) = from
end_in (Sitting me log (Recalling past)) = me
end_in (Watching logs moments) = Replica 0

-- the envelope in the slot that was taken last, or the empty envelope if no slot is held or the slot holds nothing
abbrev pub content_in : List (ℕ × Option Envelope) → Envelope
content_in [] = Empty
content_in ((slot, None) ∷ held) = Empty
content_in ((slot, Some envelope) ∷ held) = envelope

-- an actor between two steps
abbrev pub resting : Shape → Actor → List Entry → Holding
resting shape me log = (sitting shape me log Resting, [])

-- an actor that has claimed its box to another, with the content of the slot
abbrev pub filling : Shape → Actor → List Entry → Actor → Option Envelope → Holding
filling shape me log to content = (sitting shape me log (Filling to), (slot_of shape me to, content) ∷ [])

-- an actor that has fetched the box from another, with the content of the slot
abbrev pub emptying : Shape → Actor → List Entry → Actor → Option Envelope → Holding
emptying shape me log from content = (sitting shape me log (Emptying from), (slot_of shape from me, content) ∷ [])

-- an actor between two steps that was shown this past moment
abbrev pub recalling : Shape → Actor → List Entry → List Step → Holding
recalling shape me log past = (sitting shape me log (Recalling past), [])

-- what represents nobody, and knows this past moment
abbrev pub looking_back : Shape → List Step → Holding
looking_back shape past = (watching shape [] (past ∷ []), [])

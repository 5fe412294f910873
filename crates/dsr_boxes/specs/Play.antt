-- What each step on a word tells the pass that makes it (this project).
use Rattle.std.specs.Prelude.{◌≡◌, ◌≢◌, ℕ, List, [], ◌∷◌, Option, None, Some, length}
use Rattle.atomic_table.specs.Table.{Step}
use Rattle.dsr_base.specs.Growth.{Extends}
use Rattle.dsr_names.specs.Places.{size, actor_at}
use Rattle.dsr_names.specs.Shape.{Shape, IsActor, shape_of}
use Rattle.dsr_names.specs.declared.actor.Actor.{Actor}
use Rattle.dsr_envelope.specs.declared.envelope.Envelope.{Envelope}
use Rattle.dsr_envelope.specs.declared.entry.Entry.{Entry}
use Rattle.dsr_envelope.specs.declared.entry.Entry.TheVariants.{Post, Take}
use Rattle.dsr_envelope.specs.Limits.{IsEnvelope}
use Rattle.dsr_envelope.specs.Log.{posted_to, taken_from}
use Rattle.dsr_run.specs.Run.{IsRun, AreLogs}
use Rattle.dsr_run.specs.Step.{Step as RunStep, log_of}
use Rattle.dsr_boxes.specs.declared.view.Doing.TheVariants.{Resting, Recalling}
use Rattle.dsr_boxes.specs.declared.view.View.{View}
use Rattle.dsr_boxes.specs.Box.{IsBox}
use Rattle.dsr_boxes.specs.Moment.{AreLogsAfter}
use Rattle.dsr_boxes.specs.Pass.{IsInRun, logs_in}
use Rattle.dsr_boxes.specs.Place.{word_of}
use Rattle.dsr_boxes.specs.Rule.{ArePast}
use Rattle.dsr_boxes.specs.View.{Holding, sitting, keeping, watching, actor_in, log_in, logs_kept, moments_in, moment_in, end_in, content_in, resting, filling, emptying, recalling, looking_back}

-- what a play says about the step, the pass before, the number found, and the pass after
abbrev pub Telling : Type 1
Telling = Step (Option Envelope) → Holding → ℕ → Holding → Type 0

-- a claim: if the own box to an actor was empty, the actor fills it from now on; if not, nothing changes
abbrev pub Claims : Telling
Claims step before found after = (to : Actor) → IsActor before.0.shape to → step.word ≡ word_of before.0.shape (actor_in before.0.part) to
    → (found ≡ 0 → after ≡ filling before.0.shape (actor_in before.0.part) (log_in before.0.part) to None) × (found ≢ 0 → after ≡ before)

-- a publish: the log now has the post of what was put into the box, and it is the actor's log in a run
abbrev pub Publishes : Telling
Publishes step before found after =
    (after ≡ resting before.0.shape (actor_in before.0.part) (Post (end_in before.0.part) (content_in before.1) ∷ log_in before.0.part))
    × IsInRun after.0.shape (actor_in after.0.part) (log_in after.0.part)

-- a fetch: if the box from an actor was full, the taker empties it from now on, its log now has the take of the box's envelope, and it is the taker's
-- log in a run; if not, nothing changes
abbrev pub Fetches : Telling
Fetches step before found after = (from : Actor) → IsActor before.0.shape from → step.word ≡ word_of before.0.shape from (actor_in before.0.part)
    → (found ≡ 2 → (envelope : Envelope) × IsEnvelope envelope
    × (after ≡ emptying before.0.shape (actor_in before.0.part) (Take from envelope ∷ log_in before.0.part) from (Some envelope))
    × IsInRun after.0.shape (actor_in after.0.part) (log_in after.0.part))
    × (found ≢ 2 → after ≡ before)

-- a release: 0 is written, so that the box is empty and can be claimed again
abbrev pub Releases : Telling
Releases step before found after = (step.second ≡ 0) × (after ≡ resting before.0.shape (actor_in before.0.part) (log_in before.0.part))

-- a look at the end: if the pass has the logs of all actors, they are the logs of a run
abbrev pub Learns : Telling
Learns step before found after =
    (length (logs_kept before.0.part) ≡ size before.0.shape → AreLogs before.0.shape (logs_in before.0.shape (logs_kept before.0.part)))

-- a new pass that represents nobody
abbrev pub Enters : Telling
Enters step before found after = (after ≡ (keeping before.0.shape [], []))

-- logs without that of the highest place
abbrev pub lower : List (List Entry) → List (List Entry)
lower [] = []
lower (log ∷ logs) = logs

-- the view of the actor of the highest place, or the view of nobody if the list has no log
abbrev pub highest : Shape → List (List Entry) → View
highest shape [] = keeping shape []
highest shape (log ∷ logs) = sitting shape (actor_at shape (length logs)) log Resting

-- a view of several actors without the actor of the highest place
abbrev pub without_last : View → View
without_last v = keeping v.shape (lower (logs_kept v.part))

-- the view of the actor of the highest place alone
abbrev pub last_alone : View → View
last_alone v = highest v.shape (logs_kept v.part)

-- the view of several actors together with the actor of the next place
abbrev pub with_next : View → View → View
with_next v w = keeping v.shape (log_in w.part ∷ logs_kept v.part)

-- the view of a pass that represents nobody any more
abbrev pub spent : View
spent = keeping (shape_of 0 0 0 0) []

-- a look that makes a new moment: it knows the run as it is; and if the word is a box's, the number found agrees with what was posted there and taken
abbrev pub Looks : Telling
Looks step before found after = (now : List RunStep) × IsRun before.0.shape now
    × ((from to : Actor) → IsActor before.0.shape from → IsActor before.0.shape to → step.word ≡ word_of before.0.shape from to
    → IsBox found (posted_to to (log_of now from)) (taken_from from (log_of now to)))
    × (after ≡ looking_back before.0.shape now)

-- a look by an actor: it knows the run as it is, in which its own log is the log of its pass
abbrev pub Remembers : Telling
Remembers step before found after = (now : List RunStep) × IsRun before.0.shape now × (log_of now (actor_in before.0.part) ≡ log_in before.0.part)
    × (after ≡ recalling before.0.shape (actor_in before.0.part) (log_in before.0.part) now)

-- a look by an actor that was shown a past moment: its own log at that moment is a past of its log now. From now on it does not know the moment
abbrev pub Compares : Telling
Compares step before found after =
    (after ≡ resting before.0.shape (actor_in before.0.part) (log_in before.0.part))
    × Extends (log_in before.0.part) (log_of (moment_in before.0.part) (actor_in before.0.part))

-- a look by a token that knows past moments: the run as it is goes on from each of them. From now on the token knows this present moment alone
abbrev pub Meets : Telling
Meets step before found after = (now : List RunStep) × IsRun before.0.shape now × ArePast now (moments_in before.0.part)
    × (after ≡ looking_back before.0.shape now)

-- a look at the end by a token that knows a past moment: if it has the logs of all actors, they are the logs of a run that goes on from the moment
abbrev pub LearnsAll : Telling
LearnsAll step before found after =
    (length (logs_kept before.0.part) ≡ size before.0.shape
    → AreLogsAfter before.0.shape (moment_in before.0.part) (logs_in before.0.shape (logs_kept before.0.part)))

-- the view of one actor that knows nothing of the past any more
abbrev pub forgetful : View → View
forgetful v = sitting v.shape (actor_in v.part) (log_in v.part) Resting

-- a view that represents nobody and knows one moment: the one that the given view was shown last
abbrev pub moment_alone : View → View
moment_alone v = watching v.shape [] (moment_in v.part ∷ [])

-- a view as it is
abbrev pub as_it_is : View → View
as_it_is v = v

-- the view of one actor that is shown the moment of another view
abbrev pub reminded : View → View → View
reminded v w = sitting v.shape (actor_in v.part) (log_in v.part) (Recalling (moment_in w.part))

-- the view of several actors, or of nobody, that is shown the moment of another view
abbrev pub with_moment : View → View → View
with_moment v w = watching v.shape (logs_kept v.part) (moment_in w.part ∷ moments_in v.part)

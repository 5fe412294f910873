-- What came of an event that was done (this project). The notes are exactly these, in this order.
use Rattle.std.specs.Prelude.{◌≡◌, ℕ, zero, suc, true, false, List, [], Some}
use Rattle.dsr_names.specs.Shape.{Shape, is_traitor}
use Rattle.dsr_names.specs.declared.actor.Actor.{Actor}
use Rattle.dsr_names.specs.declared.actor.Actor.TheVariants.{Replica, Client}
use Rattle.dsr_envelope.specs.declared.entry.Entry.{Entry}
use Rattle.dsr_envelope.specs.declared.envelope.Envelope.{Envelope}
use Rattle.dsr_envelope.specs.declared.pick.Pick.{Pick}
use Rattle.dsr_envelope.specs.declared.pick.Pick.TheVariants.{Plain, From, Begin}
use Rattle.dsr_play.specs.declared.event.Event.{Event}
use Rattle.dsr_play.specs.declared.event.Event.TheVariants.{Post, Plant, Take, Tell}
use Rattle.dsr_run.specs.Run.{envelope_of}
use Rattle.dsr_run.specs.Step.{Step, Logs, log_of}
use Rattle.dsr_world.specs.Event.{step_of}
use Rattle.dsr_notes.specs.Ask.{AreAskNotes}
use Rattle.dsr_notes.specs.Closing.{AreTakeNotes}
use Rattle.dsr_notes.specs.Unproposed.{AreUnproposed}
use Rattle.dsr_notes.specs.Vote.{AreVoteNotes}
use Rattle.dsr_notes.specs.declared.note.Note.{Note}

-- the notes of a loyal replica's post to this replica: at the post to replica 0 what it could propose, if it chooses to propose nothing
abbrev pub ArePostNotes : Shape → Actor → List Entry → ℕ → Pick → List Note → Type 0
ArePostNotes shape me log zero Plain notes = AreUnproposed shape me log notes
ArePostNotes shape me log zero (From clients) notes = notes ≡ []
ArePostNotes shape me log zero (Begin op) notes = notes ≡ []
ArePostNotes shape me log (suc q) pick notes = notes ≡ []

-- the notes of a take, by the log of the taker; there are none of a traitor's
abbrev pub AreNotesOfTake : Shape → Actor → Actor → List Entry → Envelope → List Note → Type 0
AreNotesOfTake shape (Replica p) (Replica q) log envelope notes =
    (is_traitor shape p ≡ true → notes ≡ []) × (is_traitor shape p ≡ false → AreTakeNotes shape log q envelope notes)
AreNotesOfTake shape (Replica p) (Client c) log envelope notes =
    (is_traitor shape p ≡ true → notes ≡ []) × (is_traitor shape p ≡ false → AreAskNotes shape log c envelope notes)
AreNotesOfTake shape (Client c) (Replica q) log envelope notes = AreVoteNotes shape log q envelope notes
AreNotesOfTake shape (Client c) (Client d) log envelope notes = notes ≡ []

-- the notes of an event that was done, by the logs before it and the envelope that was posted or taken
abbrev pub AreNotes : Shape → Logs → Event → Envelope → List Note → Type 0
AreNotes shape logs (Post (Replica p) (Replica q) pick) envelope notes = ArePostNotes shape (Replica p) (logs (Replica p)) q pick notes
AreNotes shape logs (Post (Replica p) (Client c) pick) envelope notes = notes ≡ []
AreNotes shape logs (Post (Client c) to pick) envelope notes = notes ≡ []
AreNotes shape logs (Plant from to draft) envelope notes = notes ≡ []
AreNotes shape logs (Take at from) envelope notes = AreNotesOfTake shape at from (logs at) envelope notes
AreNotes shape logs (Tell from to) envelope notes = notes ≡ []

-- the run went on by the step that the event is, and these are its notes
pub record IsNoted (shape : Shape) (earlier : List Step) (event : Event) (notes : List Note) : Type 0 where
  pub step : Step
  pub is_event : step_of shape (log_of earlier) event ≡ Some step
  pub are : AreNotes shape (log_of earlier) event (envelope_of step.1) notes

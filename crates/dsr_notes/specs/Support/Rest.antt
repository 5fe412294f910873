-- What is noted of an event before it happens, and what remains to be noted once it is done. No public contract cites this (this project).
use Rattle.std.specs.Prelude.{◌≡◌, suc, false, true, List, [], ◌∷◌, ◌++◌, Option, None, length, map, if◌then◌else◌}
use Rattle.std.specs.Option.{option_to_list}
use Rattle.dsr_names.specs.Shape.{Shape, IsLoyal}
use Rattle.dsr_names.specs.declared.actor.Actor.TheVariants.{Replica}
use Rattle.dsr_ledger.specs.declared.reply.Reply.{Reply as AReply}
use Rattle.dsr_history.specs.History.{acting}
use Rattle.dsr_rotation.specs.Calendar.{closed_slots}
use Rattle.dsr_chain.specs.Content.{requests_in}
use Rattle.dsr_envelope.specs.Log.{rounds}
use Rattle.dsr_envelope.specs.declared.entry.Entry.{Entry}
use Rattle.dsr_play.specs.declared.event.Event.{Event}
use Rattle.dsr_replica.specs.Decided.{slot_decided}
use Rattle.dsr_run.specs.Step.{Step, Logs, log_of}
use Rattle.dsr_world.specs.Event.{HasDone, refusal_of}
use Rattle.dsr_notes.specs.Closing.{closes, outcomes, requests_before}
use Rattle.dsr_notes.specs.Noting.{Notes}
use Rattle.dsr_notes.specs.Notes.{IsNoted}
use Rattle.dsr_notes.specs.declared.closing.Closing.{Closing}
use Rattle.dsr_notes.specs.declared.note.Note.{Note}
use Rattle.dsr_notes.specs.declared.note.Note.TheVariants.{Accepted, Closed, Decided}
use Rattle.dsr_notes.specs.declared.rest.Rest.{Rest}
use Rattle.dsr_notes.specs.declared.rest.Rest.TheVariants.{Nothing, Reply, Close}

-- the round was the last that the replica closed, and if a slot closed with it, this many requests acted before that slot
pub record HasClosed (shape : Shape) (logs : Logs) (closing : Closing) : Type 0 where
  pub loyal : IsLoyal shape (Replica closing.replica)
  pub round : rounds shape (logs (Replica closing.replica)) ≡ suc closing.round
  pub acted : closes shape closing.round ≡ true
      → closing.acted ≡ length (acting (requests_before shape (logs (Replica closing.replica)) (closed_slots shape closing.round)))

-- the notes of the round that a replica with this log closed
abbrev pub closing_notes : Shape → List Entry → Closing → List Note
closing_notes shape log closing =
    Closed closing.round
    ∷ (if closes shape closing.round
    then Decided (closed_slots shape closing.round) closing.kept
    ∷ outcomes (closed_slots shape closing.round) (requests_before shape log (closed_slots shape closing.round))
    (requests_in (slot_decided shape log (closed_slots shape closing.round)))
    else [])

-- what remains can be noted: the round was closed
abbrev pub CanRest : Shape → Logs → Rest → Type 0
CanRest shape logs Nothing = Unit {0}
CanRest shape logs Reply = Unit {0}
CanRest shape logs (Close closing) = HasClosed shape logs closing

-- the notes that remain, by the logs after the event and the reply that was accepted with it
abbrev pub rest_notes : Shape → Logs → Option AReply → Rest → List Note
rest_notes shape logs reply Nothing = []
rest_notes shape logs reply Reply = map Accepted (option_to_list reply)
rest_notes shape logs reply (Close closing) = closing_notes shape (logs (Replica closing.replica)) closing

-- if the event is done, these notes and those that remain are its notes, unless memory ran out
unfoldable pub Foretells : Shape → List Step → Event → Notes → Rest → Type 0
Foretells shape run event notes rest =
    (later : List Step) (reply : Option AReply) → refusal_of shape (log_of run) event ≡ None → HasDone shape later run event reply
    → CanRest shape (log_of later) rest
    × (notes.is_broken ≡ false → IsNoted shape run event (notes.items ++ rest_notes shape (log_of later) reply rest))

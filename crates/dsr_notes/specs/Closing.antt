-- What a loyal replica does when it closes a round: it may decide a slot, whose requests then act or not (Dolev and Strong 1983; Schneider 1990 for the
-- requests).
use Rattle.std.specs.Prelude.{◌≡◌, ℕ, suc, ◌==◌, Bool, List, [], ◌∷◌, ◌++◌, length, map, if◌then◌else◌}
use Rattle.dsr_names.specs.Shape.{Shape}
use Rattle.dsr_names.specs.declared.actor.Actor.TheVariants.{Replica}
use Rattle.dsr_request.specs.Request.{Request}
use Rattle.dsr_history.specs.History.{acting, requests_of, rises_above}
use Rattle.dsr_rotation.specs.Calendar.{last_round, closed_slots}
use Rattle.dsr_chain.specs.Content.{requests_in}
use Rattle.dsr_envelope.specs.Log.{rounds}
use Rattle.dsr_envelope.specs.declared.entry.Entry.{Entry}
use Rattle.dsr_envelope.specs.declared.entry.Entry.TheVariants.{Take}
use Rattle.dsr_envelope.specs.declared.envelope.Envelope.{Envelope}
use Rattle.dsr_replica.specs.Decided.{slot_kept, slot_decided, values}
use Rattle.dsr_notes.specs.Reading.{IsRead}
use Rattle.dsr_notes.specs.declared.note.Note.{Note}
use Rattle.dsr_notes.specs.declared.note.Note.TheVariants.{Kept, Closed, Decided, Acted, Stale}

-- whether a slot closes with this round: the oldest that is not closed
abbrev pub closes : Shape → ℕ → Bool
closes shape t = last_round shape (closed_slots shape t) == t

-- what becomes of the requests of a decision, if these were processed before, newest first: each acts if it rises above them, at the place after
-- those that acted, and otherwise does not
abbrev pub outcomes : ℕ → List Request → List Request → List Note
outcomes slot older [] = []
outcomes slot older (request ∷ more) =
    (if rises_above request older then Acted slot (length (acting older)) request else Stale slot request) ∷ outcomes slot (request ∷ older) more

-- the requests that were decided for the slots before this one, newest first
abbrev pub requests_before : Shape → List Entry → ℕ → List Request
requests_before shape log slot = requests_of (map requests_in (values (slot_decided shape log) slot))

-- the chains that were kept for a closed slot
abbrev pub kept_notes : Shape → List Entry → ℕ → List Note
kept_notes shape log slot = map Kept (slot_kept shape log slot (suc shape.f))

-- the decision of a closed slot: how many chains were kept for it, and what becomes of each request that was decided
abbrev pub decision_notes : Shape → List Entry → ℕ → List Note
decision_notes shape log slot =
    Decided slot (length (slot_kept shape log slot (suc shape.f)))
    ∷ outcomes slot (requests_before shape log slot) (requests_in (slot_decided shape log slot))

-- what the log says of the close of this round, which it has closed: what was kept for the slot that closes with it, if one does; that the round is
-- closed; and the slot's decision
abbrev pub closing : Shape → List Entry → ℕ → List Note
closing shape log t =
    if closes shape t
    then kept_notes shape log (closed_slots shape t) ++ Closed t ∷ decision_notes shape log (closed_slots shape t)
    else Closed t ∷ []

-- the notes of a loyal replica's take from a replica: what it makes of the envelope, and, if it takes from the last replica, of the close of the round
pub record AreTakeNotes (shape : Shape) (log : List Entry) (from : ℕ) (envelope : Envelope) (notes : List Note) : Type 0 where
  pub read : List Note
  pub is_read : IsRead shape log envelope read
  pub are : notes ≡ read ++ (if suc from == shape.n then closing shape (Take (Replica from) envelope ∷ log) (rounds shape log) else [])

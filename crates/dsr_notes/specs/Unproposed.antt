-- What a loyal replica could propose, and does not (this project: to propose nothing is allowed).
use Rattle.std.specs.Prelude.{◌≡◌, ◌⊎◌, ℕ, zero, suc, ◌-◌, not, nat_lt, Bool, true, false, List, [], ◌∷◌, ◌++◌, Option, None, Some}
use Rattle.std.specs.Option.{option_map}
use Rattle.dsr_base.specs.Member.{In}
use Rattle.dsr_names.specs.Shape.{Shape}
use Rattle.dsr_names.specs.Support.ActorEquality.{actor_eq}
use Rattle.dsr_names.specs.declared.actor.Actor.{Actor}
use Rattle.dsr_request.specs.Request.{Request}
use Rattle.dsr_ledger.specs.declared.reply.Reply.{Reply as AReply}
use Rattle.dsr_history.specs.History.{reply}
use Rattle.dsr_rotation.specs.Calendar.{first_round, IsInFlight}
use Rattle.dsr_chain.specs.Content.{requests_in}
use Rattle.dsr_chain.specs.Proper.{sender_of}
use Rattle.dsr_slot.specs.declared.kept.Kept.{Kept}
use Rattle.dsr_envelope.specs.Log.{rounds}
use Rattle.dsr_envelope.specs.declared.entry.Entry.{Entry}
use Rattle.dsr_replica.specs.Decided.{slot_kept, decided_requests}
use Rattle.dsr_replica.specs.Held.{held}
use Rattle.dsr_notes.specs.declared.note.Note.{Note}
use Rattle.dsr_notes.specs.declared.note.Note.TheVariants.{Unproposed}

-- whether a request of this number, or a later one, has the client's last reply
abbrev pub has_passed : Option AReply → ℕ → Bool
has_passed None number = false
has_passed (Some reply) number = not (nat_lt reply.number number)

-- the request is in a chain that the replica keeps for a slot in flight
pub record IsKept (shape : Shape) (log : List Entry) (request : Request) : Type 0 where
  pub slot : ℕ
  pub kept : Kept
  pub in_flight : IsInFlight shape slot (rounds shape log)
  pub is_kept : In kept (slot_kept shape log slot (suc (rounds shape log - first_round shape slot)))
  pub stands : In request (requests_in kept.chain.value)

-- the replica holds the client's request, which neither acted there, nor a later one of the client, nor is in a chain that it keeps for a slot in flight
pub record IsWaiting (shape : Shape) (log : List Entry) (client : ℕ) (request : Request) : Type 0 where
  pub is_held : option_map (λ ask. ask.request) (held shape client log) ≡ Some request
  pub not_passed : has_passed (reply (decided_requests shape log) client) request.number ≡ false
  pub not_kept : ¬ IsKept shape log request

-- the note of a client's request that waits; none if none does
abbrev pub IsNoteOf : Shape → List Entry → ℕ → List Note → Type 0
IsNoteOf shape log client notes =
    ((request : Request) × IsWaiting shape log client request × (notes ≡ Unproposed (rounds shape log) request ∷ []))
    ⊎ (((request : Request) → ¬ IsWaiting shape log client request) × (notes ≡ []))

-- the notes are the waiting requests of the clients below a number, in their order
abbrev pub AreWaiting : Shape → List Entry → ℕ → List Note → Type 0
AreWaiting shape log zero notes = notes ≡ []
AreWaiting shape log (suc client) notes =
    (before : List Note) × (last : List Note) × AreWaiting shape log client before × IsNoteOf shape log client last × (notes ≡ before ++ last)

-- the notes of a loyal replica's choice to propose nothing: the waiting requests of all clients, if the slot that begins with the round is its own
abbrev pub AreUnproposed : Shape → Actor → List Entry → List Note → Type 0
AreUnproposed shape me log notes =
    (actor_eq me (sender_of shape (rounds shape log)) ≡ true → AreWaiting shape log shape.m notes)
    × (actor_eq me (sender_of shape (rounds shape log)) ≡ false → notes ≡ [])

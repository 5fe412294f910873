-- What a replica's log says about the slots: what was read in their rounds, what is kept, and what is decided (Dolev and
-- Strong 1983, slot by slot; the calendar is this project's).
use Rattle.std.specs.Prelude.{ℕ, zero, suc, ◌+◌, List, [], ◌∷◌, Option, None, Some, map, slice_get}
use Rattle.dsr_names.specs.Shape.{Shape}
use Rattle.dsr_names.specs.declared.actor.Actor.TheVariants.{Replica}
use Rattle.dsr_request.specs.Request.{Request}
use Rattle.dsr_rotation.specs.Calendar.{first_round, closed_slots}
use Rattle.dsr_chain.specs.Chain.{Chain}
use Rattle.dsr_chain.specs.Content.{requests_in}
use Rattle.dsr_chain.specs.declared.slot_value.SlotValue.{SlotValue}
use Rattle.dsr_slot.specs.Broadcast.{from_each}
use Rattle.dsr_slot.specs.Decision.{decided}
use Rattle.dsr_slot.specs.Keeping.{kept_after}
use Rattle.dsr_slot.specs.declared.kept.Kept.{Kept}
use Rattle.dsr_envelope.specs.declared.envelope.Envelope.{Envelope}
use Rattle.dsr_envelope.specs.declared.entry.Entry.{Entry}
use Rattle.dsr_envelope.specs.Envelope.{chains_for}
use Rattle.dsr_envelope.specs.Log.{taken_from, rounds}

-- the chains for this round in the envelope; without an envelope, no chains
abbrev pub chains_of : ℕ → Option Envelope → List Chain
chains_of t None = []
chains_of t (Some envelope) = chains_for t envelope

-- the chains that a replica sent in this round: those of the envelope taken from it in this round; no chains if that
-- envelope belongs to another round
abbrev pub sent : List Entry → ℕ → ℕ → List Chain
sent log t p = chains_of t (slice_get (taken_from (Replica p) log) t)

-- the chains read in a round, by the poster's number and then in the order of its envelope
abbrev pub read_in : Shape → List Entry → ℕ → List Chain
read_in shape log t = from_each shape.n (sent log t)

-- the chains read in a round of a slot, counted from 1
abbrev pub slot_read : Shape → List Entry → ℕ → ℕ → List Chain
slot_read shape log slot zero = []
slot_read shape log slot (suc r) = read_in shape log (first_round shape slot + r)

-- what is kept for a slot after this number of its first rounds
abbrev pub slot_kept : Shape → List Entry → ℕ → ℕ → List Kept
slot_kept shape log slot r = kept_after shape slot (slot_read shape log slot) r

-- what is decided for a slot
abbrev pub slot_decided : Shape → List Entry → ℕ → SlotValue
slot_decided shape log slot = decided shape slot (slot_read shape log slot)

-- the values of the slots below a number, the latest first
abbrev pub values : (ℕ → SlotValue) → ℕ → List SlotValue
values of zero = []
values of (suc slot) = of slot ∷ values of slot

-- the decided values of the closed slots, the latest first
abbrev pub decided_values : Shape → List Entry → List SlotValue
decided_values shape log = values (slot_decided shape log) (closed_slots shape (rounds shape log))

-- the requests of the decided values, the latest value first: what the machine processes
abbrev pub decided_requests : Shape → List Entry → List (List Request)
decided_requests shape log = map requests_in (decided_values shape log)

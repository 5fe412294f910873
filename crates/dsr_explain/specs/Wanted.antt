-- Which events an explanation is asked for, and which of their notes (this project).
use Rattle.std.specs.Prelude.{◌≡◌, ℕ, ◌==◌, Bool, true, false, List, Option, None, Some, IfSome, Any}
use Rattle.dsr_play.specs.declared.event.Event.{Event}
use Rattle.dsr_notes.specs.declared.note.Note.{Note}
use Rattle.dsr_notes.specs.declared.note.Note.TheVariants.{OtherRound, Chain, Kept, Closed, Decided, Acted, Stale, Held, Vote, NoVote, Accepted, Unproposed}
use Rattle.dsr_reasons.specs.Reason.{actor_of}
use Rattle.dsr_explain.specs.declared.wanted.Wanted.{Wanted}

-- the slot that the note is about; none if it is about no single slot
abbrev pub slot_of : Note → Option ℕ
slot_of (OtherRound round) = None
slot_of (Chain place slot fate) = Some slot
slot_of (Kept kept) = Some kept.chain.slot
slot_of (Closed round) = None
slot_of (Decided slot kept) = Some slot
slot_of (Acted slot place request) = Some slot
slot_of (Stale slot request) = Some slot
slot_of (Held request) = None
slot_of (Vote count needed) = None
slot_of (NoVote why) = None
slot_of (Accepted reply) = None
slot_of (Unproposed slot request) = Some slot

-- whether a note about this slot is wanted: any is if no slot is wanted, and so is a note about no single slot
abbrev pub is_of : Option ℕ → Option ℕ → Bool
is_of None slot = true
is_of (Some wanted) None = true
is_of (Some wanted) (Some slot) = slot == wanted

-- whether the note of a wanted event is wanted
abbrev pub wants_note : Wanted → Note → Bool
wants_note wanted note = is_of wanted.slot (slot_of note)

-- the filter wants events of this actor: of any, or of the one that posts, takes or tells
abbrev pub WantsActor : Wanted → Event → Type 0
WantsActor wanted event = IfSome wanted.actor (λ actor. actor ≡ actor_of event)

-- the filter wants the event, which was done and has these notes: not if it wants only refused ones; and if it wants a slot, one note must be about it
abbrev pub WantsDone : Wanted → Event → List Note → Type 0
WantsDone wanted event notes =
    (wanted.refused ≡ false) × WantsActor wanted event × IfSome wanted.slot (λ slot. Any (λ note. slot_of note ≡ Some slot) notes)

-- the filter wants the event if it is refused: it asks for no slot, since a refused event has no part in any
abbrev pub WantsRefused : Wanted → Event → Type 0
WantsRefused wanted event = (wanted.slot ≡ None) × WantsActor wanted event

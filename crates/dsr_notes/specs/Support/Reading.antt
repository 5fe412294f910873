-- What a loyal replica adds to the notes before it takes an envelope. No public contract cites this (this project).
use Rattle.std.specs.Prelude.{◌≡◌, ℕ, suc, true, false, List, [], ◌∷◌, ◌++◌, length, if◌then◌else◌}
use Rattle.dsr_names.specs.Shape.{Shape}
use Rattle.dsr_names.specs.declared.actor.Actor.TheVariants.{Replica}
use Rattle.dsr_rotation.specs.Calendar.{closed_slots}
use Rattle.dsr_envelope.specs.Log.{rounds}
use Rattle.dsr_envelope.specs.declared.entry.Entry.{Entry}
use Rattle.dsr_envelope.specs.declared.entry.Entry.TheVariants.{Take}
use Rattle.dsr_envelope.specs.declared.envelope.Envelope.{Envelope}
use Rattle.dsr_replica.specs.Decided.{slot_kept}
use Rattle.dsr_notes.specs.Closing.{closes, kept_notes}
use Rattle.dsr_notes.specs.Noting.{Notes}
use Rattle.dsr_notes.specs.Reading.{IsRead}
use Rattle.dsr_notes.specs.declared.note.Note.{Note}

-- what the replica makes of the envelope is added, and then these notes, unless memory ran out
abbrev pub AddsRead : Shape → List Entry → Envelope → Notes → Notes → List Note → Type 0
AddsRead shape log envelope before after kept =
    after.is_broken ≡ false
    → (before.is_broken ≡ false) × (read : List Note) × IsRead shape log envelope read × (after.items ≡ before.items ++ (read ++ kept))

-- the envelope is the last one of the round: what was kept for the slot that closes with it, if one does, is added too, and this is how much that is
pub record AddsLast (shape : Shape) (log : List Entry) (from : ℕ) (envelope : Envelope) (before after : Notes) (kept : ℕ) : Type 0 where
  pub read : AddsRead shape log envelope before after
      (if closes shape (rounds shape log)
      then kept_notes shape (Take (Replica from) envelope ∷ log) (closed_slots shape (rounds shape log))
      else [])
  pub count : closes shape (rounds shape log) ≡ true → after.is_broken ≡ false
      → kept ≡ length (slot_kept shape (Take (Replica from) envelope ∷ log) (closed_slots shape (rounds shape log)) (suc shape.f))

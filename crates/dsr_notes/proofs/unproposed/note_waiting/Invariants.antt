use Rattle.std.proofs.Common.{List}
use Rattle.dsr_envelope.specs.declared.entry.Entry.{Entry}
use Rattle.dsr_replica.specs.Replica.{StandsFor}
use Rattle.dsr_notes.specs.Noting.{Adds}
use Rattle.dsr_notes.specs.Unproposed.{AreWaiting}
use Rattle.dsr_notes.specs.declared.note.Note.{Note}
use Rattle.dsr_notes.proofs.unproposed.note_waiting.Given as goal

-- the notes of the clients so far are put after the others
abbrev pub invariant-loop-number : goal.invariant-loop-number
invariant-loop-number l = (log : List Entry) → StandsFor l.loyal log
    → (waiting : List Note) × AreWaiting l.loyal.shape log l.number waiting × Adds l.fn.notes l.notes waiting

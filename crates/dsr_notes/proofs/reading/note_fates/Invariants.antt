use Rattle.std.proofs.Common.{◌≡◌, ◌++◌, false, List, [], take}
use Rattle.dsr_envelope.specs.declared.entry.Entry.{Entry}
use Rattle.dsr_replica.specs.Replica.{StandsFor}
use Rattle.dsr_notes.specs.Reading.{AreFates}
use Rattle.dsr_notes.specs.declared.note.Note.{Note}
use Rattle.dsr_notes.proofs.reading.note_fates.Given as goal

-- the fates of the chains so far are noted, unless memory ran out
abbrev pub invariant-loop-place : goal.invariant-loop-place
invariant-loop-place l = (log : List Entry) → StandsFor l.loyal log → l.notes.is_broken ≡ false → (l.initial.notes.is_broken ≡ false)
    × (fates : List Note) × AreFates l.loyal.shape log [] (take l.place l.chains) fates × (l.notes.items ≡ l.initial.notes.items ++ fates)

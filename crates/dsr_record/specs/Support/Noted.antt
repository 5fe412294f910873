-- A noted entry as the entry that it represents, and the parts of a line.
use Rattle.std.specs.Prelude.{ℕ, List, ◌∷◌, ◌++◌, Option}
use Rattle.std.specs.Option.{option_map}
use Rattle.dsr_names.specs.Actor.{IsNumbered, actor_text}
use Rattle.dsr_names.specs.declared.actor.Actor.{Actor}
use Rattle.dsr_envelope.specs.declared.entry.Entry.{Entry}
use Rattle.dsr_envelope.specs.declared.entry.Entry.TheVariants as entry
use Rattle.dsr_envelope.specs.declared.envelope.Envelope.{Envelope}
use Rattle.dsr_script.specs.EnvelopeText.{envelope_text, IsSpelledEnvelope}
use Rattle.dsr_record.specs.declared.noted.NotedEntry.{NotedEntry}
use Rattle.dsr_record.specs.declared.noted.NotedEntry.TheVariants.{Post, Take}
use Rattle.dsr_record.specs.RecordText.{entry_text, IsSpelledEntry}

-- the entry that it represents
abbrev pub entry_of : NotedEntry → Entry
entry_of (Post to envelope) = entry.Post to envelope
entry_of (Take from envelope) = entry.Take from envelope

-- a noted entry that a text can write
abbrev pub IsNoted : NotedEntry → Type 0
IsNoted e = IsSpelledEntry (entry_of e)

-- its text
abbrev pub noted_text : NotedEntry → List ℕ
noted_text e = entry_text (entry_of e)

-- the other end and the envelope, if a text can write them
abbrev pub IsEnd : Actor × Envelope → Type 0
IsEnd p = IsNumbered p.0 × IsSpelledEnvelope p.1

-- their text
abbrev pub end_text : Actor × Envelope → List ℕ
end_text p = actor_text p.0 ++ 32 ∷ envelope_text p.1

-- the post to that end; `None` without one
abbrev pub posted : Option (Actor × Envelope) → Option NotedEntry
posted end = option_map (λ p. Post p.0 p.1) end

-- the take from that end; `None` without one
abbrev pub taken : Option (Actor × Envelope) → Option NotedEntry
taken end = option_map (λ p. Take p.0 p.1) end

-- Transcripts, the texts of records (this project): a header `dsr-transcript 1 SHAPE` or `dsr-transcript 2 SHAPE`, then a line for each
-- step, like `c0 post r0 ask c0#1:write:a:7~c0` or `r0 take c0 ask c0#1:write:a:7~c0`.
use Rattle.std.specs.Prelude.{◌≡◌, ◌⊎◌, ℕ, List, [], ◌∷◌, ◌++◌, codes}
use Rattle.dsr_names.specs.Actor.{IsNumbered, actor_text}
use Rattle.dsr_names.specs.Shape.{IsAllowed}
use Rattle.dsr_names.specs.declared.refusal.Refusal.{Refusal}
use Rattle.dsr_names.specs.declared.refusal.Refusal.TheVariants.{BadShape, BadText, NoMemory}
use Rattle.dsr_envelope.specs.declared.entry.Entry.{Entry}
use Rattle.dsr_envelope.specs.declared.entry.Entry.TheVariants.{Post, Take}
use Rattle.dsr_script.specs.EnvelopeText.{envelope_text, IsSpelledEnvelope}
use Rattle.dsr_script.specs.Plain.{IsPlain}
use Rattle.dsr_text.specs.Header.{header_line, BeginsWithHeader, HasNoHeader, HasBadShape}
use Rattle.dsr_text.specs.Lines.{TextKind, AreLines, BeginsWithLines, IsBadLater, lines_text}
use Rattle.dsr_run.specs.Run.{envelope_of, other_of}
use Rattle.dsr_run.specs.Step.{Step}
use Rattle.dsr_record.specs.declared.version.Version.{Version}
use Rattle.dsr_record.specs.declared.version.Version.TheVariants.{One, Two}
use Rattle.dsr_record.specs.Record.{Record}

-- the word of an entry
abbrev pub entry_word : Entry → List ℕ
entry_word (Post to envelope) = codes "post"
entry_word (Take from envelope) = codes "take"

-- the text of an entry: its word, the other end, and the envelope
abbrev pub entry_text : Entry → List ℕ
entry_text entry = entry_word entry ++ 32 ∷ (actor_text (other_of entry) ++ 32 ∷ envelope_text (envelope_of entry))

-- an entry that a text can write
abbrev pub IsSpelledEntry : Entry → Type 0
IsSpelledEntry entry = IsNumbered (other_of entry) × IsSpelledEnvelope (envelope_of entry)

-- the text of a step: who took it, and the entry
abbrev pub step_text : Step → List ℕ
step_text step = actor_text step.0 ++ 32 ∷ entry_text step.1

-- a step that a text can write
abbrev pub IsSpelledStep : Step → Type 0
IsSpelledStep step = IsNumbered step.0 × IsSpelledEntry step.1

-- a step that a text of this version can write: in version 1 only with a plain envelope
abbrev pub IsStepOf : Version → Step → Type 0
IsStepOf One step = IsSpelledStep step × IsPlain (envelope_of step.1)
IsStepOf Two step = IsSpelledStep step

-- the title of each version
abbrev pub version_title : Version → List ℕ
version_title One = codes "dsr-transcript 1"
version_title Two = codes "dsr-transcript 2"

-- the transcripts of this version: any line can follow any others
abbrev pub transcripts : Version → TextKind Step
transcripts version = record { title = version_title version; line_text = step_text; IsLine = IsStepOf version; CanFollow = λ shape earlier line. Unit {0} }

-- the record's steps can be in a transcript of its version
abbrev pub Fits : Record → Type 0
Fits r = AreLines (transcripts r.version) r.shape r.run

-- the record's transcript
abbrev pub record_text : Record → List ℕ
record_text r = header_line (version_title r.version) r.shape ++ lines_text (transcripts r.version) r.run

-- the text is a transcript of the record: a header with the record's version and shape, which is allowed, then a line of that version for
-- each of its steps, and nothing more
pub record Spells (text : List ℕ) (r : Record) : Type 0 where
  pub after : List ℕ
  pub header : BeginsWithHeader (version_title r.version) text r.shape after
  pub allowed : IsAllowed r.shape
  pub begins : BeginsWithLines (transcripts r.version) after r.shape r.run []

-- the first bad line of the text has this number: 1 if the text begins with a header of neither version, else that of a later line
abbrev pub IsBadRecordLine : List ℕ → ℕ → Type 0
IsBadRecordLine text number =
    ((number ≡ 1) × (HasNoHeader (version_title One) text × HasNoHeader (version_title Two) text))
    ⊎ (IsBadLater (transcripts One) text number ⊎ IsBadLater (transcripts Two) text number)

-- what each refusal says about the text: the header's shape is outside the limits, whatever follows it; which line is the first bad
-- one; nothing, if memory ran out; no other refusal comes
abbrev pub IsRecordRefusal : List ℕ → Refusal → Type 0
IsRecordRefusal text BadShape = HasBadShape (version_title One) text ⊎ HasBadShape (version_title Two) text
IsRecordRefusal text (BadText number) = IsBadRecordLine text number
IsRecordRefusal text NoMemory = Unit {0}
IsRecordRefusal text other = ⊥

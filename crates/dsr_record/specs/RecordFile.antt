-- What is guaranteed if a record is read from a source (this project).
use Rattle.std.specs.Prelude.{ℕ, ◌≤◌, List, length}
use Rattle.dsr_names.specs.Limits.{most_bytes}
use Rattle.dsr_names.specs.Streams.{Input, CanFailToGive}
use Rattle.dsr_names.specs.declared.refusal.Refusal.{Refusal}
use Rattle.dsr_names.specs.declared.refusal.Refusal.TheVariants.{BadShape, BadText, NoMemory, ReadFailed}
use Rattle.dsr_history.specs.Applied.{IsTextOf}
use Rattle.dsr_record.specs.Record.{Record}
use Rattle.dsr_record.specs.RecordText.{Spells, IsRecordRefusal}

-- the source gave a text of at most 16,777,216 bytes, which is the record's transcript
pub record GivesRecord (input : Input) (r : Record) : Type 0 where
  pub text : List ℕ
  pub given : IsTextOf input.left text
  pub short : length text ≤ most_bytes
  pub spells : Spells text r

-- the source gave such a text, to which this refusal applies
pub record GivesNone (input : Input) (refusal : Refusal) : Type 0 where
  pub text : List ℕ
  pub given : IsTextOf input.left text
  pub short : length text ≤ most_bytes
  pub refused : IsRecordRefusal text refusal

-- what each refusal says: the text that the source gave is not a transcript; nothing, if memory ran out; that reading could fail, and for a
-- steady source that it has too many bytes; no other refusal comes
abbrev pub IsReadRefusal : Input → Refusal → Type 0
IsReadRefusal input BadShape = GivesNone input BadShape
IsReadRefusal input (BadText line) = GivesNone input (BadText line)
IsReadRefusal input NoMemory = Unit {0}
IsReadRefusal input ReadFailed = CanFailToGive input
IsReadRefusal input other = ⊥

-- How contracts see the notes of an event, and what it is to add some (this project).
use Rattle.std.specs.Prelude.{◌≡◌, Bool, false, List, [], ◌++◌}
use Rattle.dsr_notes.specs.declared.note.Note.{Note}

-- the notes in their order, and whether memory ran out for one of them: then they are not all
pub record Notes : Type 0 where
  pub items : List Note
  pub is_broken : Bool

-- none, and memory did not run out
abbrev pub no_notes : Notes
no_notes = record { items = []; is_broken = false }

-- these notes are added: if memory has not run out afterwards, it had not before, and the notes are those before and these
abbrev pub Adds : Notes → Notes → List Note → Type 0
Adds before after more = after.is_broken ≡ false → (before.is_broken ≡ false) × (after.items ≡ before.items ++ more)

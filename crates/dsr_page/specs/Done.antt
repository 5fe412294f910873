-- What a caller learns of a task, and what it finds in the memory that it lent (this project).
use Rattle.std.specs.Prelude.{◌≡◌, ℕ, List, [], Some, length, min, take}
use Rattle.dsr_names.specs.Streams.{Input, Output, streams, unknown_input, unknown_output}
use Rattle.dsr_command.specs.declared.Task.{Task}
use Rattle.dsr_cli.specs.Status.{WhatTaskLeft, run_of}
use Rattle.dsr_page.specs.declared.memory.Done.{Done}

-- an input that gives the text and never fails
abbrev pub text_input : List ℕ → Input
text_input text = record unknown_input { left = Some text; is_steady = Unit {0} }

-- an output in memory: these bytes, and room for this many more before it has to grow
abbrev pub memory : List ℕ → ℕ → Output
memory bytes room = record unknown_output { contents = Some bytes; room = Some room }

-- the room begins with the bytes; if it is shorter, it is their beginning
abbrev pub HasPrefixOf : List ℕ → List ℕ → Type 0
HasPrefixOf bytes room = take (min (length bytes) (length room)) room ≡ take (min (length bytes) (length room)) bytes

-- what dsr_cli says of this task holds: of a run whose whole input is the text, which ends with this status, and which wrote these bytes on its output and
-- told these on its error stream, both empty before; `done` has the status and both lengths, and the lent memory begins with as much of both as it has
-- room for
pub record HasDone (named : Task) (text : List ℕ) (done : Done) (output errors : List ℕ) : Type 0 where
  pub written : List ℕ
  pub told : List ℕ
  pub room_before : ℕ
  pub room_after : ℕ
  pub told_before : ℕ
  pub told_after : ℕ
  pub left : WhatTaskLeft named done.status (run_of (streams (text_input text) (memory [] room_before) (memory written room_after))
      (memory [] told_before) (memory told told_after))
  pub count_written : done.written ≡ length written
  pub count_told : done.told ≡ length told
  pub given : HasPrefixOf written output
  pub given_told : HasPrefixOf told errors

-- nothing was done, because no task has the number
abbrev pub IsUnknown : Done → Type 0
IsUnknown done = (done.status ≡ 2) × (done.written ≡ 0) × (done.told ≡ 0)

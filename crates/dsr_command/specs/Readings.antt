-- How clauses speak about a reading of the command line.
use Rattle.std.specs.Prelude.{List, ℕ, string_bytes}
use Rattle.dsr_command.specs.declared.Reading.{Reading}
use Rattle.dsr_command.specs.declared.Reading.TheVariants.{Do, Help, NoMemory, Usage, Version}
use Rattle.dsr_command.specs.declared.Task.{Task}

-- P holds for the task, if the reading is a task
abbrev pub IfDo : Reading → (Task → Type 0) → Type 0
IfDo (Do task) P = P task
IfDo _ P = Unit {0}

-- P holds for the text, if the reading is the version
abbrev pub IfVersion : Reading → (List ℕ → Type 0) → Type 0
IfVersion (Version text) P = P (string_bytes text)
IfVersion _ P = Unit {0}

-- P holds for the text, if the reading is the help
abbrev pub IfHelp : Reading → (List ℕ → Type 0) → Type 0
IfHelp (Help text) P = P (string_bytes text)
IfHelp _ P = Unit {0}

-- P holds for the text, if the reading is a usage fault
abbrev pub IfUsage : Reading → (List ℕ → Type 0) → Type 0
IfUsage (Usage text) P = P (string_bytes text)
IfUsage _ P = Unit {0}

-- P holds, if the reading is the version
abbrev pub OnVersion : Reading → Type 0 → Type 0
OnVersion (Version text) P = P
OnVersion _ P = Unit {0}

-- P holds, if the reading is the help
abbrev pub OnHelp : Reading → Type 0 → Type 0
OnHelp (Help text) P = P
OnHelp _ P = Unit {0}

-- P holds, if the reading is a usage fault
abbrev pub OnUsage : Reading → Type 0 → Type 0
OnUsage (Usage text) P = P
OnUsage _ P = Unit {0}

-- P holds, if the reading is that memory ran out
abbrev pub OnNoMemory : Reading → Type 0 → Type 0
OnNoMemory NoMemory P = P
OnNoMemory _ P = Unit {0}

-- P holds, if the reading is not a task
abbrev pub OnNoTask : Reading → Type 0 → Type 0
OnNoTask (Do task) P = Unit {0}
OnNoTask _ P = P

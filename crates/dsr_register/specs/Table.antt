-- The table of registers as contracts see it: the registers that hold a number, each once.
use Rattle.std.specs.Prelude.{◌≡◌, ℕ, List, Option}
use Rattle.std.specs.Map.{lookup}
use Rattle.std.specs.Str.{bytes_eq}
use Rattle.dsr_request.specs.declared.op.Op.{Op}
use Rattle.dsr_register.specs.Values.{value}

-- the register's number, or none if the table lacks its name
abbrev pub held_in : List (List ℕ × ℕ) → List ℕ → Option ℕ
held_in table name = lookup (bytes_eq name) table

-- the table represents the operations: each register holds what they left there
abbrev pub StandsFor : List (List ℕ × ℕ) → List Op → Type 0
StandsFor table ops = (name : List ℕ) → held_in table name ≡ value ops name

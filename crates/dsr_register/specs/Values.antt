-- What registers hold after a list of operations, newest first, and what the next operation answers (the state
-- machine of Schneider 1990: an operation's answer depends only on the operations before it). A register holds a
-- number, or none.
use Rattle.std.specs.Prelude.{ℕ, Bool, ◌&&◌, not, nat_eq, nat_le, is_none, is_some, if◌then◌else◌, List, [], ◌∷◌, count_by, Option, None, Some}
use Rattle.std.specs.List.{list_any}
use Rattle.std.specs.Option.{option_eq}
use Rattle.std.specs.Str.{bytes_eq}
use Rattle.dsr_request.specs.Register.{register_of}
use Rattle.dsr_request.specs.declared.op.Op.{Op}
use Rattle.dsr_request.specs.declared.op.Op.TheVariants.{Read, Write, Swap, Remove}
use Rattle.dsr_request.specs.declared.answer.Answer.{Answer}
use Rattle.dsr_request.specs.declared.answer.Answer.TheVariants.{Held, Written, Swapped, Kept, Full, Removed}

-- the registers that the operations are on, each once
abbrev pub registers : List Op → List (List ℕ)
registers [] = []
registers (op ∷ older) = if list_any (bytes_eq (register_of op)) (registers older) then registers older else register_of op ∷ registers older

-- the greatest number of registers that hold a number
abbrev pub most_registers : ℕ
most_registers = 1024

-- whether as many of these registers hold a number as may
abbrev pub is_full : (List ℕ → Option ℕ) → List (List ℕ) → Bool
is_full held_in names = nat_le most_registers (count_by (λ name. is_some (held_in name)) names)

-- whether a write or a swap on a register that holds `held` is blocked: it would be one register too many
abbrev pub is_blocked : Option ℕ → Bool → Bool
is_blocked held full = is_none held && full

-- what the operation leaves in its register, which held `held` before
abbrev pub left_by : Op → Option ℕ → Bool → Option ℕ
left_by (Read name) held full = held
left_by (Write name value) held full = if is_blocked held full then held else Some value
left_by (Swap name from to) held full = if option_eq nat_eq held from && not (is_blocked held full) then Some to else held
left_by (Remove name) held full = None

-- what the register holds after the operations: what the latest operation on it left
abbrev pub value : List Op → List ℕ → Option ℕ
value [] name = None
value (op ∷ older) name =
    if bytes_eq (register_of op) name then left_by op (value older name) (is_full (λ other. value older other) (registers older)) else value older name

-- the number of registers that hold a number after the operations
abbrev pub count_held : List Op → ℕ
count_held ops = count_by (λ name. is_some (value ops name)) (registers ops)

-- the answer to an operation on a register that holds `held`
abbrev pub answer_on : Op → Option ℕ → Bool → Answer
answer_on (Read name) held full = Held held
answer_on (Write name value) held full = if is_blocked held full then Full else Written
answer_on (Swap name from to) held full = if not (option_eq nat_eq held from) then Kept held else (if is_blocked held full then Full else Swapped)
answer_on (Remove name) held full = Removed held

-- the answer to the operation after the older ones
abbrev pub answer_after : List Op → Op → Answer
answer_after older op = answer_on op (value older (register_of op)) (is_full (λ other. value older other) (registers older))

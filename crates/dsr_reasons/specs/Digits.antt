-- The last digits of a number (this project).
use Rattle.std.specs.Prelude.{◌+◌, ◌/◌, ◌%◌, ◌∷◌, ℕ, List, []}

-- the last two digits of a number
abbrev pub last_two : ℕ → List ℕ
last_two number = (48 + number / 10 % 10) ∷ (48 + number % 10) ∷ []

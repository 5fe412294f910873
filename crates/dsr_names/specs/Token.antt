-- The tokens that hold numbers (this project). A NUM is `decimal n` with n < 2 ^ 40, a VAL one with n < 2 ^ 64.
use Rattle.std.specs.Prelude.{ℕ, ◌<◌, ◌^◌, List, codes, Option, None, Some}
use Rattle.std.specs.Fmt.{decimal}

-- what a register of 64 bits can hold: nothing, or a number below 2 ^ 64
abbrev pub IsOld : Option ℕ → Type 0
IsOld None = Unit {0}
IsOld (Some n) = n < 2 ^ 64

-- the token OLD of what a register holds
abbrev pub old_text : Option ℕ → List ℕ
old_text None = codes "none"
old_text (Some n) = decimal n

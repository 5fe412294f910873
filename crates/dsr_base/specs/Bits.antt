-- Sets of small numbers as the bits of a number.
use Rattle.std.specs.Prelude.{ℕ, zero, suc, ◌+◌, Bool, ◌==◌, if◌then◌else◌}
use Rattle.std.specs.Int.{bit_at}

-- whether bit i is set
abbrev pub is_bit_set : ℕ → ℕ → Bool
is_bit_set bits i = bit_at bits i == 1

-- the number of numbers below n that pass the test
abbrev pub count_below : (ℕ → Bool) → ℕ → ℕ
count_below test zero = 0
count_below test (suc n) = count_below test n + (if test n then 1 else 0)

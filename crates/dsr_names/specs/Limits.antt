-- The limits of inputs and outputs that contracts cite (this project). Each is the constant of the same name in the code.
use Rattle.std.specs.Prelude.{ℕ}

-- the greatest number of bytes of an input
abbrev pub most_bytes : ℕ
most_bytes = 16777216

-- the greatest number of calls of a source or a sink for one input or output
abbrev pub most_calls : ℕ
most_calls = 33554432

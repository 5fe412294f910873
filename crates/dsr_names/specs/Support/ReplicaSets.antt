-- Sets of replicas as the bits of a number, while a list of them is read. A private contract alone cites this.
use Rattle.std.specs.Prelude.{ℕ, ◌*◌, ◌%◌, ◌^◌, List, [], ◌∷◌}
use Rattle.std.specs.Int.Bits.{bit_or}

-- the number of 16 bits with these bits set too
abbrev pub bits_with : ℕ → List ℕ → ℕ
bits_with bits [] = bits
bits_with bits (i ∷ is) = bits_with (bit_or bits (1 * 2 ^ i % 2 ^ 16)) is

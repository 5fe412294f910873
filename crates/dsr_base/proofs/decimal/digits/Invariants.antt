use Rattle.std.proofs.Common.{◌≡◌, ◌^◌, ◌<◌, take}
use Rattle.std.specs.Str.Parse.{AllDigits, digits_value}
use Rattle.dsr_base.proofs.decimal.digits.Given as goal

-- the bytes so far are digits, and the number is what they write
abbrev pub invariant-loop-byte : goal.invariant-loop-byte
invariant-loop-byte l = AllDigits 10 (take l.byte-index l.bytes) × (l.number ≡ digits_value 10 (take l.byte-index l.bytes)) × (l.number < 2 ^ 64)

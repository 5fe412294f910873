use Rattle.std.proofs.Common.{◌≡◌, ◌++◌, take}
use Rattle.dsr_names.proofs.told.append.Given as goal

-- the bytes before this one are at the end
abbrev pub invariant-loop-byte : goal.invariant-loop-byte
invariant-loop-byte l = l.line ≡ l.initial.line ++ take l.byte-index l.bytes

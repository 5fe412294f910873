-- The register that an operation is on (this project: every operation is on one register).
use Rattle.std.specs.Prelude.{ℕ, List}
use Rattle.dsr_request.specs.declared.op.Op.{Op}
use Rattle.dsr_request.specs.declared.op.Op.TheVariants.{Read, Write, Swap, Remove}

-- the register that an operation is on
abbrev pub register_of : Op → List ℕ
register_of (Read name) = name
register_of (Write name value) = name
register_of (Swap name from to) = name
register_of (Remove name) = name

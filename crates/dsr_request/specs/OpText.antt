-- How texts write an operation (this project): `read NAME`, `write NAME VAL`, `swap NAME OLD VAL` and `remove NAME`, with
-- one separator between all parts, such as a space (`swap a none 1`) or a colon (`swap:a:none:1`).
use Rattle.std.specs.Prelude.{ℕ, ◌<◌, ◌^◌, List, ◌∷◌, ◌++◌, codes}
use Rattle.std.specs.Fmt.{decimal}
use Rattle.dsr_names.specs.Token.{IsOld, old_text}
use Rattle.dsr_request.specs.NameText.{IsName}
use Rattle.dsr_request.specs.declared.op.Op.{Op}
use Rattle.dsr_request.specs.declared.op.Op.TheVariants.{Read, Write, Swap, Remove}

-- the word that an operation begins with
abbrev pub verb_of : Op → List ℕ
verb_of (Read name) = codes "read"
verb_of (Write name value) = codes "write"
verb_of (Swap name from to) = codes "swap"
verb_of (Remove name) = codes "remove"

-- what follows the word and a separator
abbrev pub operands_text : ℕ → Op → List ℕ
operands_text separator (Read name) = name
operands_text separator (Write name value) = name ++ separator ∷ decimal value
operands_text separator (Swap name from to) = name ++ separator ∷ (old_text from ++ separator ∷ decimal to)
operands_text separator (Remove name) = name

-- the text of an operation, with the separator between its parts
abbrev pub op_text : ℕ → Op → List ℕ
op_text separator op = verb_of op ++ separator ∷ operands_text separator op

-- an operation that a text can write: it is on a name, and its numbers are below 2 ^ 64
abbrev pub IsOp : Op → Type 0
IsOp (Read name) = IsName name
IsOp (Write name value) = IsName name × (value < 2 ^ 64)
IsOp (Swap name from to) = IsName name × IsOld from × (to < 2 ^ 64)
IsOp (Remove name) = IsName name

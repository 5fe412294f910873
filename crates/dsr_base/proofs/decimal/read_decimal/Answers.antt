use Rattle.std.proofs.Common.{◌≡◌, ◌<◌, get_or, length, arith}
use Rattle.dsr_base.proofs.Numerals.{no_leading_zero, reads_decimals}
use Rattle.dsr_base.proofs.decimal.read_decimal.Goals as goal
use Rattle.dsr_base.proofs.decimal.read_decimal.Goals.{else-bytes-gt1-via-then-bytes-gt1+else-bytes-eq48, else-bytes-gt1-via-else-bytes-gt1}

pub returns-then-bytes-eq48 : goal.returns-then-bytes-eq48
returns-then-bytes-eq48 c n =
    ((λ e. cc), (λ p. absurd (no_leading_zero c.args.bytes.now n c.if-bytes-gt1.true c.if-bytes-eq48.true p.0 p.1)))

pub returns : goal.returns
returns c =
    let no : 1 < length c.args.bytes.now → get_or c.args.bytes.now 0 0 ≡ 48 → ⊥ =
    λ long zero. elim c.else-bytes-gt1.branch [
      | else-bytes-gt1-via-then-bytes-gt1+else-bytes-eq48 w ↦ absurd (w.if-bytes-eq48.false zero)
      | else-bytes-gt1-via-else-bytes-gt1 w ↦ omega arith
    ] in
    reads_decimals c.args.bytes.now c.digits.result no c.digits.ensures

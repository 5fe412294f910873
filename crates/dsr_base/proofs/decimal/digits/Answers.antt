use Rattle.std.proofs.Common.{◌+◌, ◌*◌, arith, rules}
use Rattle.dsr_base.proofs.Numerals.{only_digits, further_digit, too_large}
use Rattle.dsr_base.proofs.decimal.digits.Goals as goal

pub returns-then-not-is_ascii_digit : goal.returns-then-not-is_ascii_digit
returns-then-not-is_ascii_digit c =
    λ h. only_digits c.args.bytes.now _ c.loop-byte-test.true (search rules) h.0

pub returns-in_err-checked_mul : goal.returns-in_err-checked_mul
returns-in_err-checked_mul c =
    let next = further_digit c.args.bytes.now _ _ c.loop-byte-test.true (search rules) c.loop-byte.invariant.0 c.loop-byte.invariant.1 in
    let large = c.in_err-checked_mul.ensures in
    rw c.from_residual.ensures (λ h. too_large c.args.bytes.now (c.loop-byte.byte-index + 1) (c.loop-byte.number * 10) (omega arith) (omega arith) h.1)

pub returns-in_err-number : goal.returns-in_err-number
returns-in_err-number c =
    let next = further_digit c.args.bytes.now _ _ c.loop-byte-test.true (search rules) c.loop-byte.invariant.0 c.loop-byte.invariant.1 in
    let ten = c.in_ok-checked_mul.ensures in
    let large = c.in_err-number.ensures in
    let digit = c.from.ensures in
    rw c.from_residual-in_err-number.ensures (λ h. too_large c.args.bytes.now (c.loop-byte.byte-index + 1) (c.in_ok-checked_mul.field-0 + c.from.result) (omega arith) (omega arith) h.1)

pub loop-byte-preserved : goal.loop-byte-preserved
loop-byte-preserved c =
    let next = further_digit c.args.bytes.now _ _ c.loop-byte-test.true (search rules) c.loop-byte.invariant.0 c.loop-byte.invariant.1 in
    let ten = c.in_ok-checked_mul.ensures in
    let sum = c.in_ok-number.ensures in
    let digit = c.from.ensures in
    (next.0, omega arith, omega arith)

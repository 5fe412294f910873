use Rattle.std.proofs.Common.{◌≡◌, ◌++◌, subst, sym}
use Rattle.std.proofs.lemmas.Fmt.{decimal_digit}
use Rattle.dsr_reasons.proofs.DigitLemmas.{two_digits}
use Rattle.dsr_reasons.proofs.writer.Writer.put_short.Goals as goal

pub returns-then-number-lt10 : goal.returns-then-number-lt10
returns-then-number-lt10 c =
    subst (λ text. c.put_digit.new.self ≡ c.args.self.now ++ text) (sym (decimal_digit c.args.number c.if-number-lt10.true)) c.put_digit.ensures

pub returns-else-number-lt10 : goal.returns-else-number-lt10
returns-else-number-lt10 c =
    subst (λ text. c.put_two_digits.new.self ≡ c.args.self.now ++ text) (two_digits c.args.number c.if-number-lt10.false c.requires) c.put_two_digits.ensures

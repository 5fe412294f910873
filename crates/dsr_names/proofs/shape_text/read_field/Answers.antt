use Rattle.std.proofs.Common.{◌∷◌, ◌++◌, ◌∙◌, ap, refl, subst}
use Rattle.std.specs.Fmt.{decimal}
use Rattle.std.proofs.lemmas.Option.{none-some, same_Some}
use Rattle.dsr_base.specs.Split.{IsAbsent}
use Rattle.dsr_base.proofs.Marks.{not_absent}
use Rattle.dsr_names.proofs.ReplicaSets.{field_cut}
use Rattle.dsr_names.proofs.shape_text.read_field.Goals as goal

-- a text without a space does not begin with a field
pub returns-in_err-front-clause-read : goal.returns-in_err-front-clause-read
returns-in_err-front-clause-read c n rest small e = absurd (not_absent 32 (decimal n) rest (subst (IsAbsent 32) e c.in_err-front.ensures.absent))

-- what precedes the space is the number's token
pub returns-in_err-number-clause-read : goal.returns-in_err-number-clause-read
returns-in_err-number-clause-read c n rest small e =
    let same = field_cut c.args.bytes.now c.in_ok-front.front.now c.in_ok-front.rest.now n rest c.in_ok-front.ensures.found c.in_ok-front.ensures.first small e in
    absurd (none-some n ((c.in_err-number.ensures n).1 (small, same.0)))

pub returns-clause-spelled : goal.returns-clause-spelled
returns-clause-spelled c =
    let known = (c.in_ok-number.ensures c.in_ok-number.number).0 refl in
    (known.0, c.in_ok-front.ensures.found ∙ ap (λ xs. xs ++ 32 ∷ c.in_ok-front.rest.now) known.1)

pub returns-clause-read : goal.returns-clause-read
returns-clause-read c n rest small e =
    let same = field_cut c.args.bytes.now c.in_ok-front.front.now c.in_ok-front.rest.now n rest c.in_ok-front.ensures.found c.in_ok-front.ensures.first small e in
    (same_Some c.in_ok-number.number n ((c.in_ok-number.ensures n).1 (small, same.0)), same.1)

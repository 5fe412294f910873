use Rattle.std.proofs.Common.{rules}
use Rattle.dsr_text.proofs.HeaderLemmas.{no_title, titled}
use Rattle.dsr_text.proofs.header.after_title.Goals as goal

pub returns-in_err-strip_prefix-clause-none : goal.returns-in_err-strip_prefix-clause-none
returns-in_err-strip_prefix-clause-none c =
    no_title c.args.title.now c.args.line.now c.from_residual.result c.in_err-strip_prefix.ensures.cases

pub returns-in-32-clause-found : goal.returns-in-32-clause-found
returns-in-32-clause-found c =
    titled c.args.title.now c.args.line.now c.in_ok-strip_prefix.field-0.now c.in-32.len_at_least (search rules)
    c.in_ok-strip_prefix.ensures.cases.0 c.in_ok-strip_prefix.ensures.cases.1

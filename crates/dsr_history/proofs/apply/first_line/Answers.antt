use Rattle.dsr_history.proofs.LineLemmas.{no_feed, no_request, if_none}
use Rattle.dsr_history.proofs.apply.first_line.Goals as goal

pub returns-in_err-line-clause-none : goal.returns-in_err-line-clause-none
returns-in_err-line-clause-none c = if_none c.from_residual.result (no_feed c.args.text.now c.in_err-line.ensures.absent)

pub returns-in_err-request-clause-none : goal.returns-in_err-request-clause-none
returns-in_err-request-clause-none c =
    if_none c.from_residual-in_err-request.result
    (no_request c.args.text.now c.in_ok-line.line.now c.in_ok-line.after.now c.in_ok-line.ensures.found c.in_ok-line.ensures.first c.in_err-request.ensures)

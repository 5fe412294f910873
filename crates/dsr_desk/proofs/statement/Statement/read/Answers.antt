use Rattle.std.proofs.Common.{sym, subst}
use Rattle.dsr_desk.proofs.StatementLemmas.{ReadsStatement, no_request, one_request, no_link, link_by_parts}
use Rattle.dsr_desk.proofs.statement.Statement.read.Goals as goal

pub returns-in_err-request-in-None : goal.returns-in_err-request-in-None
returns-in_err-request-in-None c =
    subst (ReadsStatement c.args.bytes.now) (sym c.from_residual.ensures)
    (no_request c.args.bytes.now c.in-None.ensures.absent c.in_err-request-in-None.ensures)

pub returns-in_err-content-in-Some : goal.returns-in_err-content-in-Some
returns-in_err-content-in-Some c =
    subst (ReadsStatement c.args.bytes.now) (sym c.from_residual-in_err-content-in-Some.ensures)
    (no_link c.args.bytes.now c.in-Some.slot.now c.in-Some.rest.now c.in-Some.ensures.found c.in-Some.ensures.first c.in_err-content-in-Some.ensures.absent)

pub returns-in_ok-request-in-None : goal.returns-in_ok-request-in-None
returns-in_ok-request-in-None c =
    one_request c.args.bytes.now c.in_ok-request-in-None.request c.in-None.ensures.absent c.in_ok-request-in-None.ensures

pub returns-in_ok-content-in-Some : goal.returns-in_ok-content-in-Some
returns-in_ok-content-in-Some c =
    link_by_parts c.args.bytes.now c.in-Some.slot.now c.in-Some.rest.now c.in_ok-content-in-Some.content.now c.in_ok-content-in-Some.before.now
    c.read_link.result c.in-Some.ensures.found c.in-Some.ensures.first c.in_ok-content-in-Some.ensures.found c.in_ok-content-in-Some.ensures.first
    c.read_link.ensures

use Rattle.dsr_request.proofs.Words.{reads_nothing}
use Rattle.dsr_request.proofs.RequestTextLemmas.{no_mark, no_separator, by_parts}
use Rattle.dsr_request.proofs.request_text.read_request.Goals as goal

pub returns-in_err-client : goal.returns-in_err-client
returns-in_err-client c request =
    reads_nothing c.from_residual.result request c.from_residual.ensures
    (λ h. no_mark c.args.mark c.args.separator c.args.bytes.now request c.in_err-client.ensures.absent h.1)

pub returns-in_err-number : goal.returns-in_err-number
returns-in_err-number c request =
    reads_nothing c.from_residual-in_err-number.result request c.from_residual-in_err-number.ensures
    (λ h.
    no_separator c.args.mark c.args.separator c.args.bytes.now c.in_ok-client.client.now c.in_ok-client.rest.now request c.requires.mark
    c.in_ok-client.ensures.found c.in_ok-client.ensures.first c.in_err-number.ensures.absent h.0 h.1)

pub returns : goal.returns
returns c request =
    by_parts c.args.mark c.args.separator c.args.bytes.now c.in_ok-client.client.now c.in_ok-client.rest.now c.in_ok-number.number.now c.in_ok-number.op.now
    c.read_parts.result request c.requires.mark c.requires.separator c.in_ok-client.ensures.found c.in_ok-client.ensures.first
    c.in_ok-number.ensures.found c.in_ok-number.ensures.first (c.read_parts.ensures request)

use Rattle.dsr_request.proofs.Words.{reads_nothing}
use Rattle.dsr_request.proofs.OpLemmas.{no_op, op_of_parts}
use Rattle.dsr_request.proofs.op.Op.read.Goals as goal

pub returns-in_err-verb : goal.returns-in_err-verb
returns-in_err-verb c op =
    reads_nothing c.from_residual.result op c.from_residual.ensures
    (λ h. no_op c.args.separator c.args.bytes.now op c.in_err-verb.ensures.absent h.1)

pub returns : goal.returns
returns c op =
    op_of_parts c.args.separator c.args.bytes.now c.in_ok-verb.verb.now c.in_ok-verb.operands.now c.read_operands.result op
    c.requires c.in_ok-verb.ensures.found c.in_ok-verb.ensures.first (c.read_operands.ensures op)

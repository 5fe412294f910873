use Rattle.std.proofs.Common.{refl}
use Rattle.dsr_request.proofs.Words.{reads_nothing, reads_something}
use Rattle.dsr_request.proofs.OpLemmas.{no_write, write_of, write_by_parts}
use Rattle.dsr_request.proofs.op.read_write.Goals as goal

pub returns-in_err-name : goal.returns-in_err-name
returns-in_err-name c op =
    reads_nothing c.from_residual.result op c.from_residual.ensures
    (no_write c.args.separator c.args.operands.now c.in_err-name.ensures.absent op)

pub returns-in_err-name-2 : goal.returns-in_err-name-2
returns-in_err-name-2 c op =
    reads_nothing c.from_residual-in_err-name-2.result op c.from_residual-in_err-name-2.ensures
    (λ h.
    let first = c.in_ok-name.name.now in
    let w = write_of c.args.separator c.args.operands.now first c.in_ok-name.value.now c.requires c.in_ok-name.ensures.found c.in_ok-name.ensures.first op h in
    reads_something first (c.in_err-name-2.ensures first) (w.on_name, refl))

pub returns-in_err-value : goal.returns-in_err-value
returns-in_err-value c op =
    reads_nothing c.from_residual-in_err-value.result op c.from_residual-in_err-value.ensures
    (λ h.
    let w = write_of c.args.separator c.args.operands.now c.in_ok-name.name.now c.in_ok-name.value.now c.requires c.in_ok-name.ensures.found c.in_ok-name.ensures.first op h in
    reads_something w.value (c.in_err-value.ensures w.value) (w.is_small, w.second_is))

pub returns : goal.returns
returns c =
    write_by_parts c.args.separator c.args.operands.now c.in_ok-name.name.now c.in_ok-name.value.now c.requires c.in_ok-name.ensures.found c.in_ok-name.ensures.first
    c.in_ok-name-2.name c.in_ok-name-2.ensures c.in_ok-value.value c.in_ok-value.ensures

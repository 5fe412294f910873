use Rattle.std.proofs.Common.{refl, subst}
use Rattle.dsr_base.specs.Split.{IsAbsent}
use Rattle.dsr_names.specs.Token.{old_text}
use Rattle.std.specs.Fmt.{decimal}
use Rattle.dsr_request.proofs.Words.{reads_nothing, reads_something}
use Rattle.dsr_request.proofs.OpLemmas.{no_swap, swap_of, values_of, swap_by_parts}
use Rattle.dsr_base.proofs.Marks.{not_absent}
use Rattle.dsr_request.proofs.op.read_swap.Goals as goal

pub returns-in_err-name : goal.returns-in_err-name
returns-in_err-name c op =
    reads_nothing c.from_residual.result op c.from_residual.ensures
    (no_swap c.args.separator c.args.operands.now c.in_err-name.ensures.absent op)

pub returns-in_err-from : goal.returns-in_err-from
returns-in_err-from c op =
    reads_nothing c.from_residual-in_err-from.result op c.from_residual-in_err-from.ensures
    (λ h.
    let separator = c.args.separator in
    let w = swap_of separator c.args.operands.now c.in_ok-name.name.now c.in_ok-name.values.now c.requires c.in_ok-name.ensures.found c.in_ok-name.ensures.first op h in
    not_absent separator (old_text w.from) (decimal w.to) (subst (IsAbsent separator) w.rest_is c.in_err-from.ensures.absent))

pub returns-in_err-name-2 : goal.returns-in_err-name-2
returns-in_err-name-2 c op =
    reads_nothing c.from_residual-in_err-name-2.result op c.from_residual-in_err-name-2.ensures
    (λ h.
    let first = c.in_ok-name.name.now in
    let w = swap_of c.args.separator c.args.operands.now first c.in_ok-name.values.now c.requires c.in_ok-name.ensures.found c.in_ok-name.ensures.first op h in
    reads_something first (c.in_err-name-2.ensures first) (w.on_name, refl))

pub returns-in_err-from-2 : goal.returns-in_err-from-2
returns-in_err-from-2 c op =
    reads_nothing c.from_residual-in_err-from-2.result op c.from_residual-in_err-from-2.ensures
    (λ h.
    let separator = c.args.separator in
    let first = c.in_ok-name.name.now in
    let rest = c.in_ok-name.values.now in
    let w = swap_of separator c.args.operands.now first rest c.requires c.in_ok-name.ensures.found c.in_ok-name.ensures.first op h in
    let both = values_of separator first rest c.in_ok-from.from.now c.in_ok-from.to.now c.requires c.in_ok-from.ensures.found c.in_ok-from.ensures.first op w in
    reads_something w.from (c.in_err-from-2.ensures w.from) (w.is_old, both.0))

pub returns-in_err-to : goal.returns-in_err-to
returns-in_err-to c op =
    reads_nothing c.from_residual-in_err-to.result op c.from_residual-in_err-to.ensures
    (λ h.
    let separator = c.args.separator in
    let first = c.in_ok-name.name.now in
    let rest = c.in_ok-name.values.now in
    let w = swap_of separator c.args.operands.now first rest c.requires c.in_ok-name.ensures.found c.in_ok-name.ensures.first op h in
    let both = values_of separator first rest c.in_ok-from.from.now c.in_ok-from.to.now c.requires c.in_ok-from.ensures.found c.in_ok-from.ensures.first op w in
    reads_something w.to (c.in_err-to.ensures w.to) (w.is_small, both.1))

pub returns : goal.returns
returns c =
    swap_by_parts c.args.separator c.args.operands.now c.in_ok-name.name.now c.in_ok-name.values.now c.in_ok-from.from.now c.in_ok-from.to.now c.requires
    c.in_ok-name.ensures.found c.in_ok-name.ensures.first c.in_ok-from.ensures.found c.in_ok-from.ensures.first
    c.in_ok-name-2.name c.in_ok-name-2.ensures c.in_ok-from-2.from c.in_ok-from-2.ensures c.in_ok-to.to c.in_ok-to.ensures

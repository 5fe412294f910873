use Rattle.std.proofs.Common.{◌≡◌, ◌+◌, ◌∙◌, reverse, ap, sym, subst, arith}
use Rattle.std.specs.Prelude.{take}
use Rattle.dsr_run.specs.Run.{IsRun}
use Rattle.dsr_run.specs.Step.{log_of}
use Rattle.dsr_world.specs.Stage.{Stage}
use Rattle.dsr_lines.specs.Line.{HoldsFault}
use Rattle.dsr_lines.specs.Record.{IsFaultAt}
use Rattle.dsr_lines.proofs.StopLemmas.{fault_at, first_bad, on_some, where_some}
use Rattle.dsr_lines.proofs.record_fault.follow_all.Goals as goal

pub returns-in-Some-clause-line : goal.returns-in-Some-clause-line
returns-in-Some-clause-line c =
    let r = c.args.recorded.now in
    let items = c.entries-step-items.result.now in
    let i = c.loop-step.step-index in
    let before = reverse (take i items) in
    let w = c.loop-step.stage in
    let inv = c.loop-step.invariant in
    let step = c.step-item.result in
    let fault = c.in-Some.fault in
    let line = c.loop-step.line + 1 in
    let counts = inv.1 in
    let holds = where_some (HoldsFault w.shape (log_of w.run) step) c.in_ok-fault.fault fault c.in-Some.is c.in_ok-fault.ensures.some in
    let why = subst (λ s. HoldsFault s (log_of before) step fault) inv.2 (subst (λ run. HoldsFault w.shape (log_of run) step fault) inv.0 holds) in
    let is_run = subst (λ s. IsRun s before) inv.2 (subst (IsRun w.shape) inv.0 c.steps_are_a_run.ensures) in
    let at = fault_at r.shape items i step line fault c.loop-step-test.true c.step-item.is is_run why (omega (arith, counts)) in
    first_bad r.shape r.run before line fault (subst (λ run. IsFaultAt r.shape run before line fault) c.entries-step-items.ensures at)

pub returns-in-Some-clause-fault : goal.returns-in-Some-clause-fault
returns-in-Some-clause-fault c =
    let r = c.args.recorded.now in
    let items = c.entries-step-items.result.now in
    let i = c.loop-step.step-index in
    let before = reverse (take i items) in
    let w = c.loop-step.stage in
    let inv = c.loop-step.invariant in
    let step = c.step-item.result in
    let fault = c.in-Some.fault in
    let line = c.loop-step.line + 1 in
    let counts = inv.1 in
    let holds = where_some (HoldsFault w.shape (log_of w.run) step) c.in_ok-fault.fault fault c.in-Some.is c.in_ok-fault.ensures.some in
    let why = subst (λ s. HoldsFault s (log_of before) step fault) inv.2 (subst (λ run. HoldsFault w.shape (log_of run) step fault) inv.0 holds) in
    let is_run = subst (λ s. IsRun s before) inv.2 (subst (IsRun w.shape) inv.0 c.steps_are_a_run.ensures) in
    let at = fault_at r.shape items i step line fault c.loop-step-test.true c.step-item.is is_run why (omega (arith, counts)) in
    let same = on_some (c.follow.new.stage ≡ w) c.in_ok-fault.fault fault c.in-Some.is c.in_ok-fault.ensures.stays in
    subst (λ run. IsFaultAt r.shape r.run run line fault) (sym (ap (λ (x : Stage). x.run) same ∙ inv.0))
    (subst (λ run. IsFaultAt r.shape run before line fault) c.entries-step-items.ensures at)

use Rattle.std.proofs.Common.{◌≡◌, ◌+◌, ℕ, reverse, subst, arith}
use Rattle.std.specs.Prelude.{Result, Err, take}
use Rattle.dsr_names.specs.declared.refusal.Refusal.{Refusal}
use Rattle.dsr_names.specs.declared.refusal.Refusal.TheVariants.{NotARun}
use Rattle.dsr_run.specs.Run.{IsNextStep}
use Rattle.dsr_run.specs.Step.{log_of}
use Rattle.dsr_record.specs.FirstBad.{IsFirstBad}
use Rattle.dsr_check.proofs.Auditing.{where_false}
use Rattle.dsr_check.proofs.FirstBad.{first_bad}
use Rattle.dsr_check.proofs.checking.follow_all.Goals as goal

-- the line that is reported
same_number : (a b : ℕ) → ◌≡◌ {A = Result ℕ Refusal} (Err (NotARun a)) (Err (NotARun b)) → a ≡ b
same_number a b e = cc

pub returns-then-not-next-clause-line : goal.returns-then-not-next-clause-line
returns-then-not-next-clause-line c line told =
    let i = c.loop-step.step-index in
    let before = reverse (take i c.args.steps.now) in
    let shape = c.loop-step.audit.shape in
    let stops = where_false c.in_ok-next.next (¬ IsNextStep shape (log_of before) c.step-item.result) c.if-not-next.true
    (c.in_ok-next.ensures.not before c.loop-step.invariant.0) in
    let number = same_number (c.loop-step.line + 1) line told in
    let counted = c.loop-step.invariant.1 in
    subst (λ s. IsFirstBad s (reverse c.args.steps.now) line) c.loop-step.invariant.2
    (first_bad shape c.args.steps.now i c.step-item.result line c.loop-step-test.true c.step-item.is c.loop-step.invariant.0.is_run stops
    (omega (arith, number, counted)))

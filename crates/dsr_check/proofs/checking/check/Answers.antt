use Rattle.std.proofs.Common.{◌∙◌, inl, inr, ap, reverse, sym, subst}
use Rattle.std.specs.Prelude.{Err}
use Rattle.std.proofs.lemmas.List.{length-reverse, reverse-reverse}
use Rattle.dsr_names.specs.Shape.{HasFewTraitors}
use Rattle.dsr_names.specs.declared.refusal.Refusal.TheVariants.{NotARun}
use Rattle.dsr_run.specs.Run.{IsRun}
use Rattle.dsr_run.specs.History.{history}
use Rattle.dsr_run.specs.Linearizable.{IsLinearization}
use Rattle.dsr_run.specs.Step.{log_of}
use Rattle.dsr_run.proofs.Lemmas.{all_agree, all_right, linearized}
use Rattle.dsr_record.specs.FirstBad.{IsFirstBad}
use Rattle.dsr_check.specs.Verdict.{IsVerdict}
use Rattle.dsr_check.proofs.FirstBad.{none_bad, same_line}
use Rattle.dsr_check.proofs.checking.check.Goals as goal

pub returns-in-Err-clause-names : goal.returns-in-Err-clause-names
returns-in-Err-clause-names c line bad =
    let recorded = c.args.recorded.now in
    let shape_is = c.in_ok-audit.ensures.shape ∙ c.shape-shape.ensures in
    elim c.in-Err.ensures.refusal [
      | inl memory ↦ inr (ap Err memory)
      | inr told ↦
          let found = subst (λ s. IsFirstBad s recorded.run told.0) shape_is
          (subst (λ r. IsFirstBad c.in_ok-audit.audit.shape r told.0) c.entries.ensures (c.in-Err.ensures.line told.0 (ap Err told.1))) in
          inl (ap Err (told.1 ∙ ap NotARun (same_line recorded.shape recorded.run told.0 line found bad)))
    ]

pub returns-in-Err-clause-accepts : goal.returns-in-Err-clause-accepts
returns-in-Err-clause-accepts c is =
    let recorded = c.args.recorded.now in
    let shape_is = c.in_ok-audit.ensures.shape ∙ c.shape-shape.ensures in
    elim c.in-Err.ensures.refusal [
      | inl memory ↦ memory
      | inr told ↦
          let found = subst (λ s. IsFirstBad s recorded.run told.0) shape_is
          (subst (λ r. IsFirstBad c.in_ok-audit.audit.shape r told.0) c.entries.ensures (c.in-Err.ensures.line told.0 (ap Err told.1))) in
          absurd (none_bad recorded.shape recorded.run is told.0 found)
    ]

pub returns-clause-verdict : goal.returns-clause-verdict
returns-clause-verdict c =
    let recorded = c.args.recorded.now in
    let shape_is = c.follow_all.ensures.shape ∙ (c.in_ok-audit.ensures.shape ∙ c.shape-shape.ensures) in
    let count = length-reverse c.entries.result.now ∙ sym c.in-Ok.ensures.entries in
    subst (λ s. IsVerdict s recorded.run c.in_ok-verdict.verdict) shape_is
    (subst (λ r. IsVerdict c.follow_all.new.audit.shape r c.in_ok-verdict.verdict) c.entries.ensures
    (c.in_ok-verdict.ensures.verdict (reverse c.entries.result.now) c.in-Ok.ensures.stands count))

pub returns-clause-right : goal.returns-clause-right
returns-clause-right c =
    let recorded = c.args.recorded.now in
    let shape_is = c.follow_all.ensures.shape ∙ (c.in_ok-audit.ensures.shape ∙ c.shape-shape.ensures) in
    let few = subst HasFewTraitors c.shape-shape.ensures c.n-n.ensures.allowed.few_traitors in
    let is = subst (λ s. IsRun s recorded.run) shape_is (subst (IsRun c.follow_all.new.audit.shape) c.entries.ensures c.in-Ok.ensures.stands.is_run) in
    all_right recorded.shape few recorded.run is

pub returns-clause-linearizes : goal.returns-clause-linearizes
returns-clause-linearizes c =
    let recorded = c.args.recorded.now in
    let shape_is = c.follow_all.ensures.shape ∙ (c.in_ok-audit.ensures.shape ∙ c.shape-shape.ensures) in
    let few = subst HasFewTraitors c.shape-shape.ensures c.n-n.ensures.allowed.few_traitors in
    let is = subst (λ s. IsRun s recorded.run) shape_is (subst (IsRun c.follow_all.new.audit.shape) c.entries.ensures c.in-Ok.ensures.stands.is_run) in
    let count = length-reverse c.entries.result.now ∙ sym c.in-Ok.ensures.entries in
    let verdict : IsVerdict recorded.shape recorded.run c.in_ok-verdict.verdict =
    subst (λ s. IsVerdict s recorded.run c.in_ok-verdict.verdict) shape_is
    (subst (λ r. IsVerdict c.follow_all.new.audit.shape r c.in_ok-verdict.verdict) c.entries.ensures
    (c.in_ok-verdict.ensures.verdict (reverse c.entries.result.now) c.in-Ok.ensures.stands count)) in
    subst (IsLinearization recorded.shape recorded.run) (sym (ap reverse verdict.history ∙ reverse-reverse (history recorded.shape (log_of recorded.run))))
    (linearized recorded.shape few recorded.run is)

pub returns-clause-agreement : goal.returns-clause-agreement
returns-clause-agreement c =
    let recorded = c.args.recorded.now in
    let shape_is = c.follow_all.ensures.shape ∙ (c.in_ok-audit.ensures.shape ∙ c.shape-shape.ensures) in
    let few = subst HasFewTraitors c.shape-shape.ensures c.n-n.ensures.allowed.few_traitors in
    let is = subst (λ s. IsRun s recorded.run) shape_is (subst (IsRun c.follow_all.new.audit.shape) c.entries.ensures c.in-Ok.ensures.stands.is_run) in
    all_agree recorded.shape recorded.run few is

pub returns-clause-names : goal.returns-clause-names
returns-clause-names c line bad =
    let recorded = c.args.recorded.now in
    let shape_is = c.follow_all.ensures.shape ∙ (c.in_ok-audit.ensures.shape ∙ c.shape-shape.ensures) in
    let is = subst (λ s. IsRun s recorded.run) shape_is (subst (IsRun c.follow_all.new.audit.shape) c.entries.ensures c.in-Ok.ensures.stands.is_run) in
    absurd (none_bad recorded.shape recorded.run is line bad)

use Rattle.std.proofs.Common.{◌≡◌, ◌+◌, [], ap, sym, ◌∙◌, subst, reverse}
use Rattle.std.specs.Prelude.{All}
use Rattle.std.proofs.lemmas.Bool.{false≢true}
use Rattle.std.proofs.lemmas.List.{length-reverse}
use Rattle.dsr_text.specs.Lines.{AreLines}
use Rattle.dsr_mail.specs.Logs.{logs_of}
use Rattle.dsr_record.specs.Merge.{IsMerge, IsWhole, StopsAt}
use Rattle.dsr_record.specs.RecordText.{IsStepOf, transcripts}
use Rattle.dsr_record.specs.Support.Merging.{merged_of}
use Rattle.dsr_record.specs.declared.version.Version.TheVariants.{One}
use Rattle.dsr_record.proofs.FitLemmas.{all_reverse, all_reversed, fits}
use Rattle.dsr_record.proofs.MergeLemmas.{all_merged, stops, whole_same, whole_goes_on}
use Rattle.dsr_record.proofs.record.Record.of_logs.Goals as goal

pub returns-then-is_whole-clause-logs : goal.returns-then-is_whole-clause-logs
returns-then-is_whole-clause-logs c =
    let m = c.run.new.self in
    let merging = c.in_ok-run.ensures.stands.merging in
    let same = c.in_ok-run.ensures.logs ∙ c.in_ok-merging.ensures.logs in
    let outside = c.own_logs_are_enough.ensures.outside m.logs.now.shape (logs_of m.logs.now) merging.are in
    let whole = all_merged m.logs.now.shape (logs_of m.logs.now) (merged_of m) m.rests.items merging.merge merging.left outside
    (c.is_whole.ensures.0 c.if-is_whole.true) in
    subst (λ l. IsWhole (logs_of l) c.of.result.run) same (subst (IsWhole (logs_of m.logs.now)) (sym c.of.ensures.entries) whole)

pub returns-then-is_whole-clause-version : goal.returns-then-is_whole-clause-version
returns-then-is_whole-clause-version c =
    let items = c.run.new.self.steps.items in (
      λ e.
          let each = c.least_version-version.ensures.least.0 (sym c.of.ensures.version ∙ e) in
          subst (All (IsStepOf One)) (sym c.of.ensures.entries) (all_reverse (IsStepOf One) items (subst (All (IsStepOf One)) c.as_slice.ensures.value each)),
      λ each.
          let first = all_reversed (IsStepOf One) items (subst (All (IsStepOf One)) c.of.ensures.entries each) in
          c.of.ensures.version ∙ c.least_version-version.ensures.least.1 (subst (All (IsStepOf One)) (sym c.as_slice.ensures.value) first),
    )

pub returns-then-is_whole-clause-fits : goal.returns-then-is_whole-clause-fits
returns-then-is_whole-clause-fits c =
    let items = c.run.new.self.steps.items in
    let version = c.least_version-version.result in
    let each = subst (All (IsStepOf version)) c.as_slice.ensures.value c.least_version-version.ensures.fits in
    subst (AreLines (transcripts c.of.result.version) c.of.result.shape) (sym c.of.ensures.entries)
    (subst (λ v. AreLines (transcripts v) c.of.result.shape (reverse items)) (sym c.of.ensures.version) ((fits version c.of.result.shape items).0 each))

pub returns-else-is_whole-clause-refused : goal.returns-else-is_whole-clause-refused
returns-else-is_whole-clause-refused c =
    let m = c.run.new.self in
    let merging = c.in_ok-run.ensures.stands.merging in
    let same = c.in_ok-run.ensures.logs ∙ c.in_ok-merging.ensures.logs in
    let unlike : ¬ All (λ rest. rest.entries.now ≡ []) m.rests.items = λ all. false≢true (sym c.if-is_whole.false ∙ c.is_whole.ensures.1 all) in
    let counted = ap (λ k. k + 2) (c.len.ensures ∙ (m.steps.ok.0 ∙ sym (length-reverse m.steps.items))) in
    subst (λ l. StopsAt l.shape (logs_of l) (c.len.result + 2)) same
    (stops m.logs.now.shape (logs_of m.logs.now) (merged_of m) m.rests.items (c.len.result + 2) merging.merge merging.left c.in_ok-run.ensures.stuck unlike counted)

pub returns-then-is_whole-clause-only : goal.returns-then-is_whole-clause-only
returns-then-is_whole-clause-only c run is whole =
    let logs = c.args.logs.now in
    let m = c.run.new.self in
    let merging = c.in_ok-run.ensures.stands.merging in
    let same = c.in_ok-run.ensures.logs ∙ c.in_ok-merging.ensures.logs in
    let merge = subst (λ l. IsMerge l.shape (logs_of l) c.of.result.run) same
    (subst (IsMerge m.logs.now.shape (logs_of m.logs.now)) (sym c.of.ensures.entries) merging.merge) in
    whole_same logs.shape (logs_of logs) c.of.result.run run merge (returns-then-is_whole-clause-logs c) is whole

pub returns-else-is_whole-clause-when : goal.returns-else-is_whole-clause-when
returns-else-is_whole-clause-when c run is whole =
    let logs = c.args.logs.now in
    absurd (whole_goes_on logs.shape (logs_of logs) run (c.len.result + 2) is whole (returns-else-is_whole-clause-refused c))

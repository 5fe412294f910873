use Rattle.std.proofs.Common.{sym, ◌∙◌, subst, reverse}
use Rattle.std.specs.Prelude.{All}
use Rattle.std.proofs.lemmas.List.Elements.{All-get_or}
use Rattle.dsr_text.specs.Lines.{AreLines}
use Rattle.dsr_record.specs.RecordText.{IsStepOf, transcripts}
use Rattle.dsr_record.specs.declared.version.Version.TheVariants.{One}
use Rattle.dsr_record.proofs.FitLemmas.{all_reverse, all_reversed, fits}
use Rattle.dsr_record.proofs.RunLemmas.{run_within, IsWithin}
use Rattle.dsr_record.proofs.record.Record.of_world.Goals as goal

-- what a world's run posts and takes is within the limits
pub noted-requires : goal.noted-requires
noted-requires c =
    let run = c.args.world.now.run in
    let within = all_reverse IsWithin run (run_within c.args.world.now.shape run c.entries-actor-items.ensures.run) in
    let items = c.entries-actor-items.result.now in
    let each = subst (All IsWithin) (sym c.entries-actor-items.ensures.same) within in
    subst IsWithin (sym c.loop-actor-item.is) (All-get_or IsWithin items c.loop-actor.actor-index c.loop-actor-item.result c.loop-actor-test.true each)

pub returns-clause-version : goal.returns-clause-version
returns-clause-version c =
    let items = c.loop-actor.steps.items in (
      λ e.
          let each = c.least_version-version.ensures.least.0 (sym c.of.ensures.version ∙ e) in
          subst (All (IsStepOf One)) (sym c.of.ensures.entries) (all_reverse (IsStepOf One) items (subst (All (IsStepOf One)) c.as_slice.ensures.value each)),
      λ each.
          let first = all_reversed (IsStepOf One) items (subst (All (IsStepOf One)) c.of.ensures.entries each) in
          c.of.ensures.version ∙ c.least_version-version.ensures.least.1 (subst (All (IsStepOf One)) (sym c.as_slice.ensures.value) first),
    )

pub returns-clause-fits : goal.returns-clause-fits
returns-clause-fits c =
    let items = c.loop-actor.steps.items in
    let version = c.least_version-version.result in
    let each = subst (All (IsStepOf version)) c.as_slice.ensures.value c.least_version-version.ensures.fits in
    subst (AreLines (transcripts c.of.result.version) c.of.result.shape) (sym c.of.ensures.entries)
    (subst (λ v. AreLines (transcripts v) c.of.result.shape (reverse items)) (sym c.of.ensures.version) ((fits version c.of.result.shape items).0 each))

use Rattle.std.proofs.Common.{[], ap, sym, ◌∙◌, subst, reverse}
use Rattle.std.specs.Prelude.{All}
use Rattle.std.proofs.lemmas.List.Elements.{All-nil}
use Rattle.dsr_base.specs.Boxes.{AreSquare}
use Rattle.dsr_names.specs.Places.{size}
use Rattle.dsr_mail.specs.Logs.{logs_of}
use Rattle.dsr_record.specs.RecordText.{IsSpelledStep}
use Rattle.dsr_record.specs.Support.Merging.{IsMerging}
use Rattle.dsr_record.proofs.MergeBoxes.{boxes_new}
use Rattle.dsr_record.proofs.merging.Merging.new.Goals as goal

pub returns-clause-stands : goal.returns-clause-stands
returns-clause-stands c =
    let logs = c.args.logs.now in
    let rests = c.in_ok-rests.rests.items in
    let boxes = c.in_ok-boxes.boxes in
    let none = c.new-2.ensures.items in
    let square = subst (λ n. AreSquare n boxes) (c.size-count.ensures.same ∙ ap size c.shape.ensures.same) c.in_ok-boxes.ensures.square in
    let first : IsMerging logs.shape (logs_of logs) [] rests boxes = record {
      are = c.shape.ensures.run;
      merge = tt;
      left = c.in_ok-rests.ensures.rests;
      boxes = boxes_new logs.shape boxes square c.in_ok-boxes.ensures.empty;
    } in
    record {
      merging = subst (λ items. IsMerging logs.shape (logs_of logs) (reverse items) rests boxes) (sym none) first;
      spelled = subst (All IsSpelledStep) (sym none) (All-nil IsSpelledStep);
    }

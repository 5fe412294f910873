use Rattle.std.proofs.Common.{◌++◌, ◌∙◌, ap, append_assoc, refl, string_bytes}
use Rattle.dsr_explain.proofs.story.Story.end.Goals as goal

pub returns : goal.returns
returns c =
    let slots = string_bytes c.in_ok-slots.slots in
    let boxes = string_bytes c.in_ok-boxes.boxes in
    let told = c.write_all_waits.ensures in
    let before = told.2 ∙ ap (λ text. text ++ told.0) c.put_text.ensures in
    record {
      told = (
        slots,
        told.0,
        boxes,
        told.1,
        (λ as_data. (c.in_ok-slots.ensures.as_data as_data, c.in_ok-boxes.ensures.as_data as_data)),
        c.put_text-2.ensures ∙ (ap (λ text. text ++ boxes) before
            ∙ (append_assoc (c.args.self.now.out ++ slots) told.0 boxes ∙ append_assoc c.args.self.now.out slots (told.0 ++ boxes))),
      );
      outflow = refl;
    }

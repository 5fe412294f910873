use Rattle.std.proofs.Common.{◌*◌, ◌∙◌}
use Rattle.dsr_boxes.proofs.Parts.{opens_as}
use Rattle.dsr_boxes.proofs.shared_boxes.SharedBoxes.open.Goals as goal

pub vacant-requires : goal.vacant-requires
vacant-requires c =
    opens_as c.args.shape c.as_slice.result.now (c.size-2.result * c.size-3.result) c.in_ok-words.ensures.allowed
    (c.as_slice.ensures.value ∙ c.in_ok-words.ensures.words) (λ i. c.size-2.ensures.same i * c.size-3.ensures.same i)

use Rattle.std.proofs.Common.{◌<◌, ap, sym, subst, ◌∙◌, rules}
use Rattle.dsr_names.specs.Shape.{IsActor}
use Rattle.dsr_boxes.specs.Place.{word_of}
use Rattle.dsr_boxes.proofs.Looking.{looks}
use Rattle.dsr_boxes.proofs.Plainly.{few_words}
use Rattle.dsr_boxes.proofs.shared_boxes.SharedBoxes.look_at.Goals as goal

pub load_new_seat-found-requires : goal.load_new_seat-found-requires
load_new_seat-found-requires c = (
  subst (λ n. c.word_of-word.result < n) (sym (ap (λ b. b.id.words) c.self.view_is)) c.word_of-word.ensures.inside,
  looks c.self.inside.memory.shared.key c.self.inside.memory.shared.table_id.slots c.word_of-word.result,
)

pub unreachable-requires : goal.unreachable-requires
unreachable-requires c =
    let told = c.load_new_seat-found.ensures.2 in
    let same = sym (ap (λ b. b.shape) c.self.view_is) ∙ sym c.self.invariant.0 in
    few_words c.load_new_seat-found.result.0 _ _
    (told.2 c.args.from.now c.args.to.now (subst (λ s. IsActor s c.args.from.now) same c.requires.from) (subst (λ s. IsActor s c.args.to.now) same c.requires.to)
    (c.word_of-word.ensures.same ∙ ap (λ s. word_of s c.args.from.now c.args.to.now) same))
    (search rules) (search rules) (search rules) (search rules)

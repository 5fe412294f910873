use Rattle.std.proofs.Common.{ap, sym, subst, ◌∙◌, rules}
use Rattle.dsr_boxes.proofs.Parts.{some_words, splits_as, parted_pass}
use Rattle.dsr_names.specs.Places.{actor_at}
use Rattle.dsr_names.specs.Shape.{IsActor}
use Rattle.dsr_boxes.proofs.shared_boxes.SharedBoxes.part.Goals as goal

pub split_seat-own-requires : goal.split_seat-own-requires
split_seat-own-requires c = (
  search rules,
  some_words c.self.inside.memory.shared.table_id.words _ c.self.invariant.1.0,
  splits_as c.args.self.now.shape c.self.inside.memory.shared.key c.args.token.now.id c.args.place c.args.token.now.me.0
      (sym (ap (λ b. b.shape) c.self.view_is) ∙ sym c.self.invariant.0) c.requires.place (ap (λ m. m.0) c.requires.all),
)

pub invariant_of-result : goal.invariant_of-result
invariant_of-result c =
    let same = ap (λ b. b.shape) c.self.view_is in
    parted_pass c.args.self.now.shape c.args.place c.args.token.now.me c.split_seat-own.result.me c.actor_at-actor.result c.requires.all c.split_seat-own.ensures.4
    (c.actor_at-actor.ensures.same ∙ ap (λ s. actor_at s c.args.place) same) (subst (λ s. IsActor s c.actor_at-actor.result) same c.actor_at-actor.ensures.inside)

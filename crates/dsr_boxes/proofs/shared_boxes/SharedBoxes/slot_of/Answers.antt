use Rattle.std.proofs.Common.{◌+◌, ◌*◌, ◌<◌, ◌≤◌, ap, subst, sym}
use Rattle.dsr_names.specs.Shape.{IsActor}
use Rattle.dsr_boxes.proofs.Told.{slot_small}
use Rattle.dsr_boxes.proofs.shared_boxes.SharedBoxes.slot_of.Goals as goal

pub returns-clause-few : goal.returns-clause-few
returns-clause-few c =
    let same = sym (ap (λ b. b.shape) c.self.view_is) in
    subst (λ n. n < 2304) (λ i. sym c.place.ensures i * sym c.size.ensures.same i + sym c.place-2.ensures i)
    (slot_small c.self.inside.shape c.args.from.now c.args.to.now (subst (λ n. n ≤ 48) c.size.ensures.same c.size.ensures.few)
    (subst (λ s. IsActor s c.args.from.now) same c.requires.from) (subst (λ s. IsActor s c.args.to.now) same c.requires.to))

use Rattle.std.proofs.Common.{◌<◌, sym, subst, arith}
use Rattle.dsr_names.specs.Places.{size, place_of}
use Rattle.dsr_names.specs.Shape.{IsActor}
use Rattle.dsr_hosts.proofs.Closing.{place_inside}
use Rattle.dsr_hosts.proofs.ran.rank_of.Goals as goal

pub overflow_add-behind : goal.overflow_add-behind
overflow_add-behind c =
    let shape = c.args.shape.now in
    let less : place_of shape c.actor.result < size shape =
    place_inside shape c.actor.result (subst (IsActor shape) (sym c.actor.ensures.same) c.requires) in
    let few = c.size-places.ensures.few in
    let all = c.size-places.ensures.same in
    let is = c.place-behind.ensures in
    omega (arith, less, few, all, is)

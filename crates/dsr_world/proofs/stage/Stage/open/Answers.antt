use Rattle.std.proofs.Common.{◌≡◌, ◌<◌, ◌∙◌, add-one, add-suc, add-zero, refl, arith}
use Rattle.dsr_names.specs.declared.actor.Actor.TheVariants.{Replica, Client}
use Rattle.dsr_world.proofs.Opening.{later_replicas, all_clients, later_clients, none_opened, one_opened, no_keys, more_keys, opened}
use Rattle.dsr_world.proofs.Repeating.{no_letters_kept}
use Rattle.dsr_world.proofs.stage.Stage.open.Goals as goal

pub loop-number-init : goal.loop-number-init
loop-number-init c = (
  rw c.in_ok-nodes.ensures.items (none_opened _),
  rw c.new-traitors.ensures.items (no_keys c.args.shape),
  c.n-number-end.ensures.same,
  c.in_ok-keys.ensures.shape,
  λ q above. c.in_ok-keys.ensures.whole (Replica q),
  λ d. c.in_ok-keys.ensures.whole (Client d),
)

pub loop-number-preserved : goal.loop-number-preserved
loop-number-preserved c =
    let shape = c.args.shape in
    let l = c.loop-number in
    let k = l.number in
    let node = c.in_ok-node in
    let keys = c.replica_node in
    let inside : k < shape.n = omega (arith, c.loop-number-test.true, c.n-number-end.ensures.same) in (
      rw (add-one, c.in_ok-push.ensures.items) (one_opened _ _ _ (Replica k) _ l.invariant.0 inside refl node.ensures.plays),
      rw (add-one, c.in_ok-keep.ensures.kept) (more_keys shape k _ _ l.invariant.1 node.ensures.held node.ensures.traitor),
      c.n-number-end.ensures.same,
      keys.ensures.keys ∙ l.invariant.3,
      later_replicas k l.keys keys.new.keys keys.ensures.others l.invariant.4,
      all_clients k l.keys keys.new.keys keys.ensures.others l.invariant.5,
    )

pub loop-number-2-init : goal.loop-number-2-init
loop-number-2-init c =
    let l = c.loop-number in
    let all : l.number ≡ c.args.shape.n = omega (arith, c.loop-number-test.false, l.auto.number-end, c.n-number-end.ensures.same) in (
      rw add-zero (rw all at l.invariant.0),
      rw all at l.invariant.1,
      c.m-number-end.ensures.same,
      l.invariant.3,
      λ d above. l.invariant.5 d,
    )

pub loop-number-2-preserved : goal.loop-number-2-preserved
loop-number-2-preserved c =
    let l = c.loop-number-2 in
    let k = l.number in
    let node = c.client_node in
    let inside : k < c.args.shape.m = omega (arith, c.loop-number-2-test.true, c.m-number-end.ensures.same) in (
      rw (add-one, add-suc, c.in_ok-push-2.ensures.items) (one_opened _ _ _ (Client k) _ l.invariant.0 inside refl node.ensures.plays),
      l.invariant.1,
      c.m-number-end.ensures.same,
      node.ensures.keys ∙ l.invariant.3,
      later_clients k l.keys node.new.keys node.ensures.others l.invariant.4,
    )

pub invariant_of-result : goal.invariant_of-result
invariant_of-result c =
    let rows = c.in_ok-new in
    let letters = c.in_ok-no_letters in
    let known = c.new-3 in
    let all : c.loop-number-2.number ≡ c.args.shape.m = omega (arith, c.loop-number-2-test.false, c.loop-number-2.auto.number-end, c.m-number-end.ensures.same) in
    rw c.new-4.ensures (
      opened _ _ _ _ _ (rw all at c.loop-number-2.invariant.0) c.loop-number-2.invariant.1
          (rw (c.n.ensures.same, c.m.ensures.same) at rows.ensures.square) rows.ensures.empty known.ensures.none,
      no_letters_kept _ _ (rw (c.n.ensures.same, c.m.ensures.same) at letters.ensures.count) letters.ensures.none,
    )

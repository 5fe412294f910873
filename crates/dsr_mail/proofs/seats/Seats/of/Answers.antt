use Rattle.std.proofs.Common.{◌≡◌, ◌++◌, ◌∷◌, [], length, append-nil, append_assoc, ap, sym, ◌∙◌, rules, arith}
use Rattle.std.proofs.lemmas.List.{length_push, nil_from_length}
use Rattle.std.specs.Vec.Iter.{into_iter_items}
use Rattle.dsr_names.specs.Places.{size, actor_at}
use Rattle.dsr_boxes.specs.Pass.{new_passes}
use Rattle.dsr_mail.specs.Seats.{is_loyal_replica, is_traitor_replica, is_client}
use Rattle.dsr_mail.proofs.Seating.{IsNextPass, next_pass, later_apart, kept_more, kept_all}
use Rattle.dsr_mail.proofs.seats.Seats.of.Goals.{In-Some}
use Rattle.dsr_mail.proofs.seats.Seats.of.Goals as goal

whole : (c : In-Some) → c.loop-pass.yielded ++ c.in-Some.pass ∷ into_iter_items c.next.new.self ≡ new_passes c.args.boxes.now (size c.args.boxes.now.shape)
whole c = ap (λ l. c.loop-pass.yielded ++ l) (sym c.in-Some.ensures.steps.0) ∙ c.loop-pass.invariant.passes

-- the pass of this turn is the next of the new ones
next_is : (c : In-Some) → IsNextPass c.args.boxes.now c.loop-pass.yielded c.in-Some.pass
next_is c = next_pass c.args.boxes.now c.loop-pass.yielded (into_iter_items c.next.new.self) c.in-Some.pass (whole c)

pub add-requires : goal.add-requires
add-requires c =
    let next = next_is (goal.at.add-requires c).In-Some in
    let was = c.loop-pass.invariant in
    record {
      shape = rw next.is (sym c.shape-shape.ensures);
      first = rw next.is;
      keys = was.keys ∙ sym c.shape-shape.ensures;
      untaken = rw next.is (was.untaken (length c.loop-pass.yielded) (omega arith) next.inside);
    }

pub loop-pass-preserved : goal.loop-pass-preserved
loop-pass-preserved c =
    let boxes = c.args.boxes.now in
    let pass = c.in-Some.pass in
    let before = c.loop-pass.yielded in
    let was = c.loop-pass.invariant in
    let here = (goal.at.loop-pass-preserved c).In-Some in
    let added = c.in_ok-add.ensures in
    let same = c.shape-shape.ensures in
    record {
      shape = was.shape;
      keys = c.add.ensures.keys ∙ was.keys;
      passes = append_assoc before (pass ∷ []) (into_iter_items c.next.new.self) ∙ whole here;
      untaken = λ place above inside.
          c.add.ensures.others (actor_at boxes.shape place) (later_apart boxes before pass place (next_is here) above inside)
          ∙ was.untaken place (omega (arith, length_push before pass)) inside;
      replicas = kept_more is_loyal_replica boxes.shape _ before _ _ pass same was.replicas added.replicas;
      traitors = kept_more is_traitor_replica boxes.shape _ before _ _ pass same was.traitors added.traitors;
      clients = kept_more is_client boxes.shape _ before _ _ pass same was.clients added.clients;
      count = omega (arith, was.count, c.in-Some.ensures.steps.1, ap length c.in-Some.ensures.steps.0);
    }

pub returns : goal.returns
returns c =
    let boxes = c.args.boxes.now in
    let was = c.loop-pass.invariant in
    let none = nil_from_length (into_iter_items c.loop-pass.pass-iterator) (sym was.count ∙ c.in-None.ensures.steps.0) in
    let all = rw (none, append-nil) at was.passes in
    record {
      replicas = (rw all at was.replicas) ∙ kept_all is_loyal_replica boxes (size boxes.shape);
      traitors = (rw all at was.traitors) ∙ kept_all is_traitor_replica boxes (size boxes.shape);
      clients = (rw all at was.clients) ∙ kept_all is_client boxes (size boxes.shape);
      refusal = search rules;
    }

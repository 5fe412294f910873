use Rattle.std.proofs.Common.{◌≡◌, ◌<◌, ◌++◌, ◌∷◌, [], ap, sym, ◌∙◌, arith}
use Rattle.std.proofs.lemmas.List.{reverse-append}
use Rattle.dsr_names.specs.Places.{size, place_of}
use Rattle.dsr_names.specs.Shape.{IsActor}
use Rattle.dsr_names.proofs.PlaceLemmas.{place_of_actor}
use Rattle.dsr_mail.specs.Seats.{is_loyal_replica, is_traitor_replica, is_client}
use Rattle.dsr_mail.proofs.Seating.{joined_more, leaving_more, all_logged, actor_inside}
use Rattle.dsr_mail.proofs.mail.return_all.Goals as goal

pub loop-place-preserved : goal.loop-place-preserved
loop-place-preserved c =
    let boxes = c.args.boxes.now in
    let shape = boxes.shape in
    let before = c.loop-place in
    let was = before.invariant in
    let place = before.place in
    let next = c.next-pass.ensures in
    let pass = c.next-pass.result.0 in
    let logs = before.logs.items in
    let inside : place < size shape = let test = c.loop-place-test.true in let end = was.end in omega arith in
    let at : place_of shape pass.actor ≡ place = ap (place_of shape) next.actor ∙ place_of_actor shape place inside in
    let actor : IsActor shape pass.actor = rw next.actor (actor_inside shape place inside) in
    let last = at ∙ sym was.joined.logged in
    let logs_are = c.push_reserved.ensures.items ∙ ap (λ l. logs ++ l ∷ []) next.log in
    record {
      joined = rw (logs_are, c.push_reserved-in-loop-place.ensures.items) (joined_more shape _ _ _ pass.actor pass.log _ was.joined actor at next.plays);
      replicas = rw logs_are (leaving_more boxes is_loyal_replica place logs _ _ was.replicas _ pass actor last next.replicas next.left_replicas);
      traitors = rw logs_are (leaving_more boxes is_traitor_replica place logs _ _ was.traitors _ pass actor last next.traitors next.left_traitors);
      clients = rw logs_are (leaving_more boxes is_client place logs _ _ was.clients _ pass actor last next.clients next.left_clients);
      boxes = c.take_back.ensures.boxes;
      logs = rw (c.take_back.ensures.logs, was.logs, logs_are, reverse-append);
      room_logs = rw c.push_reserved.ensures.capacity was.room_logs;
      room_nodes = rw c.push_reserved-in-loop-place.ensures.capacity was.room_nodes;
      end = was.end;
    }

pub returns : goal.returns
returns c =
    let before = c.loop-place in
    let was = before.invariant in
    let end : before.place ≡ size c.args.boxes.now.shape =
    let past = c.loop-place-test.false in let most = before.auto.place-end in let is = was.end in omega arith in
    let joined = rw end at was.joined in
    let replicas = all_logged _ _ _ _ _ _ was.replicas end in
    let traitors = all_logged _ _ _ _ _ _ was.traitors end in
    let clients = all_logged _ _ _ _ _ _ was.clients end in
    assumption

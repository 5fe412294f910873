use Rattle.std.proofs.Common.{◌≡◌, reverse}
use Rattle.std.specs.Prelude.{vec_capacity}
use Rattle.std.specs.Vec.Iter.{into_iter_items}
use Rattle.dsr_names.specs.Places.{size}
use Rattle.dsr_boxes.specs.Pass.{IsReturnedTo}
use Rattle.dsr_mail.specs.Leaving.{AreJoined, IsRoomForAll}
use Rattle.dsr_mail.specs.Seats.{is_loyal_replica, is_traitor_replica, is_client}
use Rattle.dsr_mail.proofs.Seating.{AreLeaving}
use Rattle.dsr_mail.proofs.mail.return_all.Given as goal

-- the logs and nodes of the actors at the first places; the seats of the others are left
abbrev pub invariant-loop-place : goal.invariant-loop-place
invariant-loop-place l = record {
  joined : AreJoined l.boxes.shape l.place l.logs.items l.nodes.items;
  replicas : AreLeaving l.boxes is_loyal_replica l.place l.logs.items (into_iter_items l.leaving.replicas) l.fn.seats.replicas.items;
  traitors : AreLeaving l.boxes is_traitor_replica l.place l.logs.items (into_iter_items l.leaving.traitors) l.fn.seats.traitors.items;
  clients : AreLeaving l.boxes is_client l.place l.logs.items (into_iter_items l.leaving.clients) l.fn.seats.clients.items;
  boxes : IsReturnedTo l.boxes l.returned;
  logs : l.returned.logs ≡ reverse l.logs.items;
  room_logs : IsRoomForAll l.boxes.shape (vec_capacity l.logs);
  room_nodes : IsRoomForAll l.boxes.shape (vec_capacity l.nodes);
  end : l.place-end ≡ size l.boxes.shape;
}

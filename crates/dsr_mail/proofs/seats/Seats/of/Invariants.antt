use Rattle.std.proofs.Common.{◌≡◌, ℕ, ◌<◌, ◌≤◌, false, ◌++◌, length}
use Rattle.std.specs.Vec.Iter.{into_iter_items, into_iter_len}
use Rattle.dsr_names.specs.Places.{size, actor_at}
use Rattle.dsr_desk.specs.Keys.{is_taken}
use Rattle.dsr_boxes.specs.Pass.{new_passes}
use Rattle.dsr_mail.specs.Seats.{is_loyal_replica, is_traitor_replica, is_client}
use Rattle.dsr_mail.proofs.Seating.{kept}
use Rattle.dsr_mail.proofs.seats.Seats.of.Given as goal

-- the seats so far, of each kind; the keys of later actors are not taken
abbrev pub invariant-loop-pass : goal.invariant-loop-pass
invariant-loop-pass l = record {
  shape : l.shape ≡ l.boxes.shape;
  keys : l.keys.shape ≡ l.boxes.shape;
  passes : l.yielded ++ into_iter_items l.pass-iterator ≡ new_passes l.boxes (size l.boxes.shape);
  untaken : (place : ℕ) → length l.yielded ≤ place → place < size l.boxes.shape → is_taken l.keys (actor_at l.boxes.shape place) ≡ false;
  replicas : l.seats.replicas.items ≡ kept is_loyal_replica l.boxes.shape l.yielded;
  traitors : l.seats.traitors.items ≡ kept is_traitor_replica l.boxes.shape l.yielded;
  clients : l.seats.clients.items ≡ kept is_client l.boxes.shape l.yielded;
  count : into_iter_len l.pass-iterator ≡ length (into_iter_items l.pass-iterator);
}

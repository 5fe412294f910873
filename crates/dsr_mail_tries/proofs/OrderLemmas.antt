-- The seats of one replica and two clients, and why client 1's requests come after client 0's.
use Rattle.std.proofs.Common.{◌≡◌, ℕ, zero, suc, ◌<◌, ◌++◌, List, [], ◌∷◌, Ok, Err, refl, ap, sym, ◌∙◌, subst, arith, get_or}
use Rattle.std.specs.Prelude.{IfOk, Result}
use Rattle.dsr_base.specs.Growth.{Extends}
use Rattle.dsr_base.specs.Member.{In, here}
use Rattle.dsr_names.specs.Shape.{Shape, shape_of}
use Rattle.dsr_names.specs.declared.actor.Actor.TheVariants.{Replica, Client}
use Rattle.dsr_names.specs.declared.refusal.Refusal.{Refusal}
use Rattle.dsr_request.specs.Request.{Request}
use Rattle.dsr_ledger.specs.declared.reply.Reply.{Reply}
use Rattle.dsr_envelope.specs.declared.envelope.Envelope.TheVariants.{Ask}
use Rattle.dsr_envelope.specs.declared.entry.Entry.{Entry}
use Rattle.dsr_envelope.specs.declared.entry.Entry.TheVariants.{Post}
use Rattle.dsr_client.specs.State.{accepted}
use Rattle.dsr_run.specs.Linearizable.{HasResponse}
use Rattle.dsr_run.specs.Step.{Logs as LogsOfAll, log_of}
use Rattle.dsr_boxes.specs.Moment.{Moment}
use Rattle.dsr_boxes.specs.Pass.{SharedBoxes, Pass, IsPassOf, new_pass}
use Rattle.dsr_mail.specs.Logs.{Logs, logs_of}
use Rattle.dsr_mail.specs.Responses.{HasInvoked}
use Rattle.dsr_mail.specs.Seats.{is_loyal_replica, is_client, AreSeatsOf}
use Rattle.dsr_mail_tries.specs.Order.{IsBetween, IsInOrder}
use Rattle.dsr_mail_tries.specs.Same.{IsSameSeat}

-- the last of one seat
pub last_of_one : (all : List Pass) (a x : Pass) (xs : List Pass) → all ≡ a ∷ [] → all ≡ xs ++ x ∷ [] → (xs ≡ []) × (x ≡ a)
last_of_one all a x xs are e = parts xs (sym are ∙ e)
  where
    parts : (ys : List Pass) → a ∷ [] ≡ ys ++ x ∷ [] → (ys ≡ []) × (x ≡ a)
    parts [] f = (refl, cc)
    parts (y ∷ []) f = cc
    parts (y ∷ z ∷ rest) f = cc

-- the last of two seats, and the one before it
pub last_of_two : (all one none : List Pass) (a b first second : Pass) → all ≡ a ∷ b ∷ [] → all ≡ one ++ second ∷ [] → one ≡ none ++ first ∷ []
    → (none ≡ []) × (first ≡ a) × (second ≡ b)
last_of_two all one none a b first second are e f =
    let last = parts one (sym are ∙ e) in
    let other = last_of_one one a first none last.0 f in (other.0, other.1, last.1)
  where
    parts : (ys : List Pass) → a ∷ b ∷ [] ≡ ys ++ second ∷ [] → (ys ≡ a ∷ []) × (second ≡ b)
    parts [] g = cc
    parts (y ∷ []) g = (cc, cc)
    parts (y ∷ z ∷ []) g = cc
    parts (y ∷ z ∷ w ∷ rest) g = cc

-- a seat that is put back into an empty list
pub one_back : (none one : List Pass) (seat : Pass) → none ≡ [] → one ≡ none ++ seat ∷ [] → one ≡ seat ∷ []
one_back none one seat empty e = e ∙ ap (λ (l : List Pass). l ++ seat ∷ []) empty

-- two seats that are put back into an empty list
pub both_back : (none one both : List Pass) (first second : Pass) → none ≡ [] → one ≡ none ++ first ∷ [] → both ≡ one ++ second ∷ []
    → both ≡ first ∷ second ∷ []
both_back none one both first second empty e f = f ∙ ap (λ (l : List Pass). l ++ second ∷ []) (one_back none one first empty e)

module _ (mail : SharedBoxes) (few : mail.shape ≡ shape_of 1 0 2 0) where
  -- the replica's seat is all seats of loyal replicas
  one_replica : (replica : Pass) → IsSameSeat (new_pass mail (Replica 0)) replica → AreSeatsOf mail is_loyal_replica (replica ∷ [])
  one_replica replica same = (all, rw few (rw same.2 refl))
    where
      all : (k : ℕ) (d : Pass) → k < 1 → IsPassOf mail (get_or (replica ∷ []) k d)
      all zero d below = (same.0, same.1)
      all (suc k) d below = absurd (omega arith)

  -- so it is once the replica's seat, which was lent, is put back
  pub replica_back : (none one : List Pass) (lent replica : Pass) → none ≡ [] → lent ≡ new_pass mail (Replica 0) → IsSameSeat lent replica
      → one ≡ none ++ replica ∷ [] → AreSeatsOf mail is_loyal_replica one
  replica_back none one lent replica empty new same e =
      subst (AreSeatsOf mail is_loyal_replica) (sym (one_back none one replica empty e))
      (one_replica replica (subst (λ (p : Pass). IsSameSeat p replica) new same))

  -- both clients' seats are all seats of clients
  two_clients : (first second : Pass) → IsSameSeat (new_pass mail (Client 0)) first → IsSameSeat (new_pass mail (Client 1)) second
      → AreSeatsOf mail is_client (first ∷ second ∷ [])
  two_clients first second one other = (all, rw few (rw one.2 (rw other.2 refl)))
    where
      all : (k : ℕ) (d : Pass) → k < 2 → IsPassOf mail (get_or (first ∷ second ∷ []) k d)
      all zero d below = (one.0, one.1)
      all (suc zero) d below = (other.0, other.1)
      all (suc (suc k)) d below = absurd (omega arith)

  -- so it is once both clients' seats, which were lent, are put back
  pub clients_back : (both : List Pass) (lent other first second : Pass) → both ≡ first ∷ second ∷ [] → lent ≡ new_pass mail (Client 0) → IsSameSeat lent first
      → other ≡ new_pass mail (Client 1) → IsSameSeat other second → AreSeatsOf mail is_client both
  clients_back both lent other first second are new same other_new other_same =
      subst (AreSeatsOf mail is_client) (sym are)
      (two_clients first second (subst (λ (p : Pass). IsSameSeat p first) new same) (subst (λ (p : Pass). IsSameSeat p second) other_new other_same))

-- a list that the empty list goes on from is empty
nothing_before : (log : List Entry) → Extends [] log → log ≡ []
nothing_before [] grown = refl
nothing_before (entry ∷ log) ([], e) = cc
nothing_before (entry ∷ log) (newest ∷ newer, e) = cc

-- between the two asks, client 0 has done what is in its seat, and client 1 nothing
pub is_between : (mail : SharedBoxes) (clients : List Pass) (first second later : Pass) (result : Result Moment Refusal) → clients ≡ first ∷ later ∷ []
    → first.actor ≡ Client 0 → second ≡ new_pass mail (Client 1) → IfOk result (λ moment. log_of moment.run first.actor ≡ first.log)
    → IfOk result (λ moment. Extends second.log (log_of moment.run second.actor)) → IfOk result (IsBetween clients)
is_between mail clients first second later (Ok moment) are actor new done past = record {
  seat = first;
  inside = subst (In first) (sym are) (here refl);
  actor = actor;
  done = subst (λ a. log_of moment.run a ≡ first.log) actor done;
  none = nothing_before (log_of moment.run (Client 1)) (subst (λ (p : Pass). Extends p.log (log_of moment.run p.actor)) new past);
}
is_between mail clients first second later (Err refusal) are actor new done past = tt

-- a response depends on the log of the request's client alone
same_response : (shape : Shape) (one other : LogsOfAll) (request : Request) (reply : Reply) → one (Client request.client) ≡ other (Client request.client)
    → HasResponse shape one request reply → HasResponse shape other request reply
same_response shape one other request reply same h = record {
  invoked = record {
    replica = h.invoked.replica;
    ask = h.invoked.ask;
    posted = subst (In (Post (Replica h.invoked.replica) (Ask h.invoked.ask))) same h.invoked.posted;
    is = h.invoked.is;
  };
  accepted = subst (λ log. In reply (accepted shape log)) same h.accepted;
  number = h.number;
}

-- a client that has done nothing has invoked nothing
none_invoked : (request : Request) → ¬ HasInvoked [] request
none_invoked request (ask, same, posted) = elim posted.posted [ ]

-- what `Mail::close_after` says of a moment between the two asks
pub in_order : (shape : Shape) (moment : Moment) (clients : List Pass) (logs : Logs) → logs.shape ≡ shape → IsBetween clients moment
    → ((seat : Pass) → In seat clients → logs_of logs seat.actor ≡ seat.log)
    → ((first second : Request) (reply later : Reply) (own : List Entry) → HasResponse shape (log_of moment.run) first reply
    → Extends own (log_of moment.run (Client second.client)) → ¬ HasInvoked own second → HasResponse shape (logs_of logs) second later → reply.place < later.place)
    → IsInOrder logs
in_order shape moment clients logs same between own places first second reply later one two response other =
    let done : logs_of logs (Client 0) ≡ log_of moment.run (Client 0) =
    subst (λ a. logs_of logs a ≡ between.seat.log) between.actor (own between.seat between.inside) ∙ sym between.done in
    let at_moment =
    same_response logs.shape (logs_of logs) (log_of moment.run) first reply
    (subst (λ (k : ℕ). logs_of logs (Client k) ≡ log_of moment.run (Client k)) (sym one) done) response in
    places first second reply later [] (subst (λ s. HasResponse s (log_of moment.run) first reply) same at_moment)
    ([], sym (subst (λ (k : ℕ). log_of moment.run (Client k) ≡ []) (sym two) between.none)) (none_invoked second)
    (subst (λ s. HasResponse s (logs_of logs) second later) same other)

-- How the nodes of a world still represent their logs after a step.
use Rattle.std.proofs.Common.{◌≡◌, ◌∙◌, ◌∷◌, IsSome, List, None, Option, Some, arith, false, suc, ℕ}
use Rattle.std.specs.Prelude.{Result, IfOk}
use Rattle.std.specs.Option.{option_map}
use Rattle.dsr_names.specs.Shape.{Shape}
use Rattle.dsr_names.specs.declared.refusal.Refusal.{Refusal}
use Rattle.dsr_names.specs.declared.actor.Actor.{Actor}
use Rattle.dsr_names.specs.declared.actor.Actor.TheVariants.{Replica as ReplicaNumber, Client as ClientNumber}
use Rattle.dsr_request.specs.declared.op.Op.{Op}
use Rattle.dsr_chain.specs.declared.signed_request.SignedRequest.{SignedRequest}
use Rattle.dsr_envelope.specs.declared.envelope.Envelope.{Envelope}
use Rattle.dsr_envelope.specs.declared.envelope.Envelope.TheVariants.{Ask}
use Rattle.dsr_envelope.specs.declared.entry.Entry.{Entry}
use Rattle.dsr_envelope.specs.declared.entry.Entry.TheVariants.{Post}
use Rattle.dsr_envelope.specs.declared.pick.Pick.{Pick}
use Rattle.dsr_envelope.specs.declared.pick.Pick.TheVariants.{Begin}
use Rattle.dsr_client.specs.Client.{StandsFor as StandsForClient}
use Rattle.dsr_client.specs.Conduct.{ask_of, next_number, chosen_beside}
use Rattle.dsr_client.specs.State.{outstanding}
use Rattle.dsr_client.proofs.Lemmas.{post_none}
use Rattle.dsr_replica.specs.Replica.{Replica, StandsFor, Allows}
use Rattle.dsr_replica.proofs.Lemmas.{allowed_is}
use Rattle.dsr_node.specs.Conduct.{post_of, is_exhausted, is_traitor_of}
use Rattle.dsr_node.proofs.Conduct.{round_below}
use Rattle.dsr_node.specs.Customer.{Customer}
use Rattle.dsr_node.specs.Node.{Plays, CanPost, IsClient, IsHonest, post_refusal}
use Rattle.dsr_node.specs.declared.node.Node.{Node}
use Rattle.dsr_node.specs.declared.node.Node.TheVariants.{Loyal, Client}

-- what a new request is
begun_beside : (o : Option SignedRequest) (me number : ℕ) (op : Op) (envelope : Envelope)
    → option_map Ask (chosen_beside o me number (Begin op)) ≡ Some envelope → Ask (ask_of me number op) ≡ envelope
begun_beside o me number op envelope e = grind arith

-- what a loyal replica gives, a node that is it gives
pub loyal_given : (shape : Shape) (me : Actor) (log : List Entry) (r : Replica) (to : Actor) (pick : Pick) (result : Result Envelope Refusal)
    → Plays shape me log (Loyal r)
    → ((p : ℕ) (log : List Entry) → r.me ≡ ReplicaNumber p → StandsFor r log → IfOk result (λ envelope. post_of r.shape log (ReplicaNumber p) to pick ≡ Some envelope))
    → IfOk result (λ envelope. post_of shape log me to pick ≡ Some envelope)
loyal_given shape me log r to pick result plays given = grind (arith, λ (p : ℕ). given p log)

-- there is a post if nothing refuses it, and no counter is at its end
not_refused : (shape : Shape) (log : List Entry) (me to : Actor) (pick : Pick) → post_refusal shape log me to pick ≡ None
    → IsSome (post_of shape log me to pick) × (is_exhausted shape log me to pick ≡ false)
not_refused shape log me to pick none = grind arith

-- a replica allows a post to a replica that nothing refuses
pub allows : (r : Replica) (q : ℕ) (pick : Pick) → CanPost (Loyal r) (ReplicaNumber q) pick → Allows r q pick
allows r q pick may = by_actor may.me may.plays may.none
  where
    by_actor : (me : Actor) → Plays may.shape me may.log (Loyal r) → post_refusal may.shape may.log me (ReplicaNumber q) pick ≡ None → Allows r q pick
    by_actor (ClientNumber c) plays none = elim plays [ ]
    by_actor (ReplicaNumber p) plays none =
        let free = not_refused may.shape may.log (ReplicaNumber p) (ReplicaNumber q) pick none in
        (allowed_is r may.log q pick plays.stands).1 (rw (plays.shape_is, plays.me) (free.0, round_below may.shape may.log p q pick free.1))

-- ---- what the node is by its role

-- what plays a client is one
pub client_plays : (shape : Shape) (c : ℕ) (log : List Entry) (node : Node) → Plays shape (ClientNumber c) log node → IsClient node
client_plays shape c log node plays = grind arith

-- what plays an actor that is not a traitor is not a traitor
pub honest_plays : (shape : Shape) (me : Actor) (log : List Entry) (node : Node) → is_traitor_of shape me ≡ false → Plays shape me log node → IsHonest node
honest_plays shape me log node honest plays = grind arith

-- a client that began a request plays on
pub begun_plays : (shape : Shape) (me : Actor) (log : List Entry) (envelope : Envelope) (x new : Customer) (to : Actor) (op : Op)
    → Plays shape me log (Client x) → post_of shape log me to (Begin op) ≡ Some envelope
    → new.client.me ≡ x.client.me → new.client.shape ≡ x.client.shape
    → ((log : List Entry) (q : ℕ) → StandsForClient x.client log
    → StandsForClient new.client (Post (ReplicaNumber q) (Ask (ask_of x.client.me (suc x.client.accepted) op)) ∷ log))
    → new.accepted ≡ x.accepted → Plays shape me (Post to envelope ∷ log) (Client new)
begun_plays shape (ReplicaNumber p) log envelope x new to op plays e me shape_is begun kept = elim plays [ ]
begun_plays shape (ClientNumber c) log envelope x new (ClientNumber d) op plays e me shape_is begun kept = cc
begun_plays shape (ClientNumber c) log envelope x new (ReplicaNumber q) op plays e me shape_is begun kept =
    let is = begun_beside (outstanding shape log) c (next_number shape log) op envelope e in
    record {
      me = me ∙ plays.me;
      shape_is = shape_is ∙ plays.shape_is;
      stands = rw (plays.me, plays.stands.accepted, plays.shape_is, is) at (begun log q plays.stands);
      noted = cc ((post_none shape (ReplicaNumber q) envelope log).same);
    }

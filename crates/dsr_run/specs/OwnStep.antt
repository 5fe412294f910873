-- Which steps an actor's own log lets it take (this project). With the one box that a step uses, that is enough for a step in a run:
-- nobody has to look at another's log.
use Rattle.std.specs.Prelude.{◌≡◌, ◌⊎◌, suc, ◌<◌, ◌^◌, true, false, List, None, length}
use Rattle.dsr_names.specs.Shape.{Shape, is_traitor}
use Rattle.dsr_names.specs.declared.actor.Actor.{Actor}
use Rattle.dsr_names.specs.declared.actor.Actor.TheVariants.{Replica, Client}
use Rattle.dsr_desk.specs.Signature.{Signature}
use Rattle.dsr_envelope.specs.declared.envelope.Envelope.{Envelope}
use Rattle.dsr_envelope.specs.declared.entry.Entry.{Entry}
use Rattle.dsr_envelope.specs.declared.entry.Entry.TheVariants.{Post}
use Rattle.dsr_envelope.specs.Envelope.{Carries}
use Rattle.dsr_envelope.specs.Limits.{IsEnvelope}
use Rattle.dsr_envelope.specs.Log.{posted_to}
use Rattle.dsr_replica.specs.Conduct.{IsNext}
use Rattle.dsr_replica.specs.Posts.{WasTaken}
use Rattle.dsr_client.specs.Conduct.{IsNext as IsNextOfClient}
use Rattle.dsr_client.specs.State.{outstanding}
use Rattle.dsr_run.specs.Run.{KeepsRounds}

-- an entry keeps the protocol of its actor by the actor's own log: that of a loyal replica, or of a client; a traitor is free
abbrev pub KeepsOwn : Shape → Actor → List Entry → Entry → Type 0
KeepsOwn shape (Replica p) log entry = is_traitor shape p ≡ false → IsNext shape (Replica p) log entry × KeepsRounds shape log entry
KeepsOwn shape (Client c) log entry = IsNextOfClient shape c log entry

-- what the protocol leaves open in a post is within the limits of envelopes: all that a traitor posts, and a client's new request
abbrev pub FitsWhereFree : Shape → Actor → List Entry → Actor → Envelope → Type 0
FitsWhereFree shape (Replica p) log to envelope = is_traitor shape p ≡ true → IsEnvelope envelope
FitsWhereFree shape (Client c) log (Replica q) envelope = outstanding shape log ≡ None → IsEnvelope envelope
FitsWhereFree shape (Client c) log (Client d) envelope = Unit {0}

-- a traitor that holds only its own key: each signature that it posts is its own, or is in an envelope that it took
abbrev pub ForgesNone : Shape → Actor → List Entry → Envelope → Type 0
ForgesNone shape (Replica p) log envelope =
    is_traitor shape p ≡ true → (s : Signature) → Carries envelope s → (s.signer ≡ Replica p) ⊎ WasTaken log s
ForgesNone shape (Client c) log envelope = Unit {0}

-- a post that an actor may make by its own log
pub record MayPost (shape : Shape) (me : Actor) (log : List Entry) (to : Actor) (envelope : Envelope) : Type 0 where
  pub keeps : KeepsOwn shape me log (Post to envelope)
  pub fits : FitsWhereFree shape me log to envelope
  pub forges : ForgesNone shape me log envelope

-- it may post to this actor again: counting this post, the box has fewer than 2^40 posts
abbrev pub HasPostsLeft : List Entry → Actor → Type 0
HasPostsLeft log to = suc (length (posted_to to log)) < 2 ^ 40

-- What a client's calls do with the request that they wait for (this project). Logs and accepted replies are listed newest first.
use Rattle.std.specs.Prelude.{◌≡◌, ◌⊎◌, ℕ, List, ◌∷◌, ◌++◌, Option, None, Some}
use Rattle.std.specs.Option.{option_map, option_or}
use Rattle.dsr_base.specs.Growth.{Extends}
use Rattle.dsr_base.specs.Member.{In}
use Rattle.dsr_names.specs.Shape.{Shape}
use Rattle.dsr_names.specs.declared.actor.Actor.{Actor}
use Rattle.dsr_names.specs.declared.actor.Actor.TheVariants.{Replica, Client}
use Rattle.dsr_request.specs.declared.op.Op.{Op}
use Rattle.dsr_ledger.specs.declared.reply.Reply.{Reply as AReply}
use Rattle.dsr_chain.specs.declared.signed_request.SignedRequest.{SignedRequest}
use Rattle.dsr_envelope.specs.declared.envelope.Envelope.TheVariants.{Ask}
use Rattle.dsr_envelope.specs.declared.entry.Entry.{Entry}
use Rattle.dsr_envelope.specs.declared.entry.Entry.TheVariants.{Post, Take}
use Rattle.dsr_client.specs.Conduct.{ask_of, next_number}
use Rattle.dsr_client.specs.Issue.{issue_front}
use Rattle.dsr_client.specs.State.{outstanding, accepted, seen}
use Rattle.dsr_boxes.specs.Pass.{Pass}

-- the seat went on: it is the same actor's at the same boxes, and its log is the older one with newer entries
pub record GoesOn (new old : Pass) : Type 0 where
  pub id : new.id ≡ old.id
  pub shape : new.shape ≡ old.shape
  pub actor : new.actor ≡ old.actor
  pub log : Extends new.log old.log

-- an actor's number
abbrev pub number_of : Actor → ℕ
number_of (Replica p) = p
number_of (Client c) = c

-- the request that a call waits for, by the client's log before the call: the outstanding one, else a new one for the operation, or `None` if
-- nothing is outstanding and the call has no operation
abbrev pub awaited : Shape → ℕ → List Entry → Option Op → Option SignedRequest
awaited shape me log op = option_or (outstanding shape log) (option_map (ask_of me (next_number shape log)) op)

-- the issue front that the awaited request will have, by the log before the call: what is seen by then, or, if the request is the outstanding one,
-- the issue front that it has in the log
abbrev pub front_beside : Shape → Option SignedRequest → ℕ → List Entry → Option ℕ
front_beside shape None number log = Some (seen shape log)
front_beside shape (Some ask) number log = issue_front shape number log

-- the request was not begun: nothing is outstanding in either log, the client accepted and saw nothing more since the older log, and it never
-- asked a replica for a request with this number
pub record IsUnbegun (shape : Shape) (number : ℕ) (older log : List Entry) : Type 0 where
  pub was : outstanding shape older ≡ None
  pub none : outstanding shape log ≡ None
  pub same : accepted shape log ≡ accepted shape older
  pub seen_is : seen shape log ≡ seen shape older
  pub first : issue_front shape number older ≡ None
  pub unissued : issue_front shape number log ≡ None

-- the client posted the request to a replica, first after the older log if nothing was outstanding there; and its issue front is as foreseen by
-- the older log
pub record WasBegun (shape : Shape) (ask : SignedRequest) (older log : List Entry) : Type 0 where
  pub replica : ℕ
  pub posted : In (Post (Replica replica) (Ask ask)) log
  pub unissued : outstanding shape older ≡ None → issue_front shape ask.request.number older ≡ None
  pub front : ℕ
  pub front_is : front_beside shape (outstanding shape older) ask.request.number older ≡ Some front
  pub issued : issue_front shape ask.request.number log ≡ Some front

-- the request is begun and not answered: it is outstanding, and nothing more was accepted than in the older log
pub record IsBegun (shape : Shape) (ask : SignedRequest) (older log : List Entry) : Type 0 where
  pub begun : WasBegun shape ask older log
  pub is : outstanding shape log ≡ Some ask
  pub same : accepted shape log ≡ accepted shape older

-- the request is not answered
abbrev pub IsAwaited : Shape → SignedRequest → List Entry → List Entry → Type 0
IsAwaited shape ask older log = IsUnbegun shape ask.request.number older log ⊎ IsBegun shape ask older log

-- the request is answered by this reply, which has its number: this is the one reply more that was accepted, and nothing is outstanding
pub record IsAnswered (shape : Shape) (ask : SignedRequest) (older log : List Entry) (reply : AReply) : Type 0 where
  pub begun : WasBegun shape ask older log
  pub last : accepted shape log ≡ reply ∷ accepted shape older
  pub done : outstanding shape log ≡ None
  pub number : reply.number ≡ ask.request.number

-- an entry that a call for this request adds in a turn at a replica: the client asks the replica for the request, or takes from it
abbrev pub IsTurn : SignedRequest → Entry → Type 0
IsTurn ask (Post (Replica q) envelope) = envelope ≡ Ask ask
IsTurn ask (Post (Client c) envelope) = ⊥
IsTurn ask (Take (Replica p) envelope) = Unit {0}
IsTurn ask (Take (Client c) envelope) = ⊥

-- the log is the older one with newer entries, each from such a turn
pub record IsByTurns (ask : SignedRequest) (older log : List Entry) : Type 0 where
  pub newer : List Entry
  pub is : log ≡ newer ++ older
  pub each : (entry : Entry) → In entry newer → IsTurn ask entry

-- the request that the call waits for, by the old seat and the operation, is not answered in the new seat
abbrev pub Awaits : Pass → Option Op → Pass → Type 0
Awaits old op new = (ask : SignedRequest) → awaited old.shape (number_of old.actor) old.log op ≡ Some ask → IsAwaited old.shape ask old.log new.log

-- every newer entry in the new seat's log is from a turn for that request
abbrev pub AddsTurns : Pass → Option Op → Pass → Type 0
AddsTurns old op new = (ask : SignedRequest) → awaited old.shape (number_of old.actor) old.log op ≡ Some ask → IsByTurns ask old.log new.log

-- that request is answered in the new seat by this reply
abbrev pub Answers : Pass → Option Op → Pass → AReply → Type 0
Answers old op new reply = (ask : SignedRequest) → awaited old.shape (number_of old.actor) old.log op ≡ Some ask
    → IsAnswered old.shape ask old.log new.log reply

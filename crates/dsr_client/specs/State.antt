-- What a client's log says: what is outstanding, which replies were accepted, and what the client has seen of the history.
-- Logs, notes and accepted replies are listed newest first (this project; in Schneider 1990 too a client believes a reply
-- that f+1 replicas give alike).
use Rattle.std.specs.Prelude.{ℕ, suc, ◌==◌, max, List, [], ◌∷◌, Option, None, Some, if◌then◌else◌}
use Rattle.dsr_names.specs.Shape.{Shape}
use Rattle.dsr_names.specs.declared.actor.Actor.TheVariants.{Replica, Client}
use Rattle.dsr_ledger.specs.declared.reply.Reply.{Reply as AReply}
use Rattle.dsr_chain.specs.declared.signed_request.SignedRequest.{SignedRequest}
use Rattle.dsr_quorum.specs.Votes.{Note, winner}
use Rattle.dsr_envelope.specs.declared.envelope.Envelope.{Envelope}
use Rattle.dsr_envelope.specs.declared.envelope.Envelope.TheVariants.{Empty, Round, Ask, Reply, Seen}
use Rattle.dsr_envelope.specs.declared.entry.Entry.{Entry}
use Rattle.dsr_envelope.specs.declared.entry.Entry.TheVariants.{Post, Take}

-- the outstanding signed request, the replies with its number that replicas gave since it is outstanding, and the
-- accepted replies
pub record State : Type 0 where
  pub outstanding : Option SignedRequest
  pub notes : List Note
  pub accepted : List AReply

-- the state at first: nothing is outstanding and nothing accepted
abbrev pub start : State
start = record { outstanding = None; notes = []; accepted = [] }

-- the state after a post of an ask: this one is outstanding, unless another is already
abbrev pub asked_beside : Option SignedRequest → SignedRequest → State → State
asked_beside None ask state = record { outstanding = Some ask; notes = []; accepted = state.accepted }
asked_beside (Some other) ask state = state

-- the state after a post to a replica
abbrev pub with_post : Envelope → State → State
with_post Empty state = state
with_post (Round round chains) state = state
with_post (Ask ask) state = asked_beside state.outstanding ask state
with_post (Reply reply) state = state
with_post (Seen front) state = state

-- the state after a reply won: it is accepted, and nothing is outstanding; the same state if no reply won
abbrev pub settled : Option AReply → State → State
settled None state = state
settled (Some reply) state = record { outstanding = None; notes = []; accepted = reply ∷ state.accepted }

-- the state with a note that this replica gave this reply
abbrev pub with_note : ℕ → AReply → State → State
with_note replica reply state = record {
  outstanding = state.outstanding;
  notes = record { replica = replica; reply = reply } ∷ state.notes;
  accepted = state.accepted;
}

-- the state after a reply: if it has the outstanding number it is noted, and may win; else nothing changes
abbrev pub replied_beside : Option SignedRequest → Shape → ℕ → AReply → State → State
replied_beside None shape replica reply state = state
replied_beside (Some ask) shape replica reply state =
    if reply.number == ask.request.number
    then settled (winner shape.f shape.n (record { replica = replica; reply = reply } ∷ state.notes)) (with_note replica reply state)
    else state

-- the state after a take from a replica
abbrev pub with_take : Shape → ℕ → Envelope → State → State
with_take shape replica Empty state = state
with_take shape replica (Round round chains) state = state
with_take shape replica (Ask ask) state = state
with_take shape replica (Reply reply) state = replied_beside state.outstanding shape replica reply state
with_take shape replica (Seen front) state = state

-- the state after a log; posts to clients and takes from them change nothing in it
abbrev pub state_after : Shape → List Entry → State
state_after shape [] = start
state_after shape (Post (Replica q) envelope ∷ older) = with_post envelope (state_after shape older)
state_after shape (Post (Client c) envelope ∷ older) = state_after shape older
state_after shape (Take (Replica p) envelope ∷ older) = with_take shape p envelope (state_after shape older)
state_after shape (Take (Client c) envelope ∷ older) = state_after shape older

-- the signed request that is outstanding
abbrev pub outstanding : Shape → List Entry → Option SignedRequest
outstanding shape log = (state_after shape log).outstanding

-- the accepted replies
abbrev pub accepted : Shape → List Entry → List AReply
accepted shape log = (state_after shape log).accepted

-- one more than the greatest place of these replies, or 0 if the list is empty
abbrev pub front_of : List AReply → ℕ
front_of [] = 0
front_of (reply ∷ older) = max (suc reply.place) (front_of older)

-- the seen front that an envelope reports, or 0 if it reports none
abbrev pub told_by : Envelope → ℕ
told_by Empty = 0
told_by (Round round chains) = 0
told_by (Ask ask) = 0
told_by (Reply reply) = 0
told_by (Seen front) = front

-- the greatest front that other clients reported, or 0 if none did; a front from a replica counts for nothing
abbrev pub told : List Entry → ℕ
told [] = 0
told (Post to envelope ∷ older) = told older
told (Take (Replica p) envelope ∷ older) = told older
told (Take (Client c) envelope ∷ older) = max (told_by envelope) (told older)

-- the seen front: how many places of the history the client knows of, by its accepted replies and by what other clients
-- reported
abbrev pub seen : Shape → List Entry → ℕ
seen shape log = max (front_of (accepted shape log)) (told log)

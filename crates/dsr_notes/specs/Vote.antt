-- What a client does with what it takes from a replica (Schneider 1990: a reply that f+1 replicas give alike is accepted).
use Rattle.std.specs.Prelude.{◌≡◌, ℕ, suc, ◌==◌, List, ◌∷◌, Option, None, Some, map, if◌then◌else◌}
use Rattle.std.specs.Option.{option_to_list}
use Rattle.dsr_names.specs.Shape.{Shape}
use Rattle.dsr_names.specs.declared.actor.Actor.TheVariants.{Replica}
use Rattle.dsr_ledger.specs.declared.reply.Reply.{Reply as AReply}
use Rattle.dsr_chain.specs.declared.signed_request.SignedRequest.{SignedRequest}
use Rattle.dsr_envelope.specs.declared.entry.Entry.{Entry}
use Rattle.dsr_envelope.specs.declared.entry.Entry.TheVariants.{Take}
use Rattle.dsr_envelope.specs.declared.envelope.Envelope.{Envelope}
use Rattle.dsr_envelope.specs.declared.envelope.Envelope.TheVariants.{Empty, Round, Ask, Reply, Seen}
use Rattle.dsr_quorum.specs.Votes.{Note as AVote, first_of, votes}
use Rattle.dsr_client.specs.State.{State, state_after, accepted}
use Rattle.dsr_node.specs.Conduct.{AcceptsBy}
use Rattle.dsr_notes.specs.declared.note.NoVote.{NoVote as Why}
use Rattle.dsr_notes.specs.declared.note.NoVote.TheVariants.{NoReply, NothingOutstanding, OtherNumber, HasVoted}
use Rattle.dsr_notes.specs.declared.note.Note.{Note}
use Rattle.dsr_notes.specs.declared.note.Note.TheVariants.{Vote, NoVote, Accepted}

-- why a reply is not a vote, beside what is outstanding and the reply for which its replica voted before; none if it is one
abbrev pub no_vote : Option SignedRequest → Option AReply → AReply → Option Why
no_vote None before reply = Some NothingOutstanding
no_vote (Some ask) (Some first) reply =
    if reply.number == ask.request.number then Some HasVoted else Some (OtherNumber ask.request.number)
no_vote (Some ask) None reply = if reply.number == ask.request.number then None else Some (OtherNumber ask.request.number)

-- a vote: how many replicas have then voted for the reply, and how many are needed; or why it is none
abbrev pub vote_or : Shape → List AVote → ℕ → AReply → Option Why → Note
vote_or shape given replica reply (Some why) = NoVote why
vote_or shape given replica reply None = Vote (votes shape.n (record { replica = replica; reply = reply } ∷ given) reply) (suc shape.f)

-- whether what is taken from this replica is a vote
abbrev pub vote_note : Shape → State → ℕ → Envelope → Note
vote_note shape state replica Empty = NoVote NoReply
vote_note shape state replica (Round round chains) = NoVote NoReply
vote_note shape state replica (Ask ask) = NoVote NoReply
vote_note shape state replica (Reply reply) =
    vote_or shape state.notes replica reply (no_vote state.outstanding (first_of replica state.notes) reply)
vote_note shape state replica (Seen front) = NoVote NoReply

-- the notes of a client's take from a replica: whether it is a vote, and the reply that is accepted with it, if one is
pub record AreVoteNotes (shape : Shape) (log : List Entry) (replica : ℕ) (envelope : Envelope) (notes : List Note) : Type 0 where
  pub reply : Option AReply
  pub accepts : AcceptsBy reply (accepted shape (Take (Replica replica) envelope ∷ log)) (accepted shape log)
  pub are : notes ≡ vote_note shape (state_after shape log) replica envelope ∷ map Accepted (option_to_list reply)

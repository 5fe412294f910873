-- Who waits for whom when a play ends (this project).
use Rattle.std.specs.Prelude.{◌≡◌, ℕ, ◌==◌, Bool, false, Option, None, Some, if◌then◌else◌}
use Rattle.std.specs.Option.{is_some}
use Rattle.dsr_names.specs.Shape.{Shape, is_traitor}
use Rattle.dsr_names.specs.declared.actor.Actor.TheVariants.{Replica, Client}
use Rattle.dsr_ledger.specs.declared.reply.Reply.{Reply as AReply}
use Rattle.dsr_history.specs.History.{reply}
use Rattle.dsr_chain.specs.declared.signed_request.SignedRequest.{SignedRequest}
use Rattle.dsr_envelope.specs.Log.{due, rounds}
use Rattle.dsr_envelope.specs.declared.due.Due.{Due}
use Rattle.dsr_envelope.specs.declared.due.Due.TheVariants.{Post as PostTo, Take as TakeFrom}
use Rattle.dsr_envelope.specs.declared.envelope.Envelope.{Envelope}
use Rattle.dsr_envelope.specs.declared.envelope.Envelope.TheVariants.{Empty, Round, Ask, Reply, Seen}
use Rattle.dsr_replica.specs.Decided.{decided_requests}
use Rattle.dsr_replica.specs.Held.{held}
use Rattle.dsr_quorum.specs.Votes.{first_of}
use Rattle.dsr_client.specs.Issue.{asks_for}
use Rattle.dsr_client.specs.State.{state_after}
use Rattle.dsr_run.specs.Step.{Logs}
use Rattle.dsr_world.specs.Event.{in_box, is_full}
use Rattle.dsr_notes.specs.declared.next.Next.{Next}
use Rattle.dsr_notes.specs.declared.standing.Standing.{Standing}
use Rattle.dsr_notes.specs.declared.standing.Standing.TheVariants.{Voted, IsTraitor, ReplyLies, CanReply, OtherLies, Holds, AskLies, OlderLies, Unasked}

-- whether the box that a replica's next step needs holds an envelope: the box to which it posts, or the one from which it takes
abbrev pub is_there : Logs → ℕ → Due → Bool
is_there logs p (PostTo q) = is_full logs (Replica p) (Replica q)
is_there logs p (TakeFrom q) = is_full logs (Replica q) (Replica p)

-- a loyal replica's next step with the replicas: what is due, in which round, and whether its box holds an envelope
pub record IsNextOf (shape : Shape) (logs : Logs) (p : ℕ) (next : Next) : Type 0 where
  pub due_is : next.due ≡ due shape (logs (Replica p))
  pub round_is : next.round ≡ rounds shape (logs (Replica p))
  pub there : next.is_there ≡ is_there logs p (due shape (logs (Replica p)))

-- whether the envelope is the reply to a request with this number
abbrev pub is_reply_to : ℕ → Envelope → Bool
is_reply_to number Empty = false
is_reply_to number (Round round chains) = false
is_reply_to number (Ask ask) = false
is_reply_to number (Reply reply) = reply.number == number
is_reply_to number (Seen front) = false

-- whether the client's last request that acted has this number
abbrev pub has_acted : ℕ → Option AReply → Bool
has_acted number None = false
has_acted number (Some reply) = reply.number == number

-- whether the ask that is held has this number
abbrev pub has_ask : ℕ → Option SignedRequest → Bool
has_ask number None = false
has_ask number (Some ask) = ask.request.number == number

-- how far the reply is, by what lies in the box to the client: the reply, nothing, or something else
abbrev pub reply_standing : ℕ → Option Envelope → Standing
reply_standing number None = CanReply
reply_standing number (Some envelope) = if is_reply_to number envelope then ReplyLies else OtherLies

-- how far the ask is, by what lies in the box to the replica: the ask, nothing, or an older ask
abbrev pub ask_standing : ℕ → Option Envelope → Standing
ask_standing number None = Unasked
ask_standing number (Some envelope) = if asks_for number envelope then AskLies else OlderLies

-- how far a replica is with the client's outstanding request, which has this number: the client has its vote; or it is a traitor; or the request acted
-- there; or it holds the request; or it has not taken the ask
abbrev pub standing : Shape → Logs → ℕ → ℕ → ℕ → Standing
standing shape logs client number p =
    if is_some (first_of p (state_after shape (logs (Client client))).notes) then Voted
    else if is_traitor shape p then IsTraitor
    else if has_acted number (reply (decided_requests shape (logs (Replica p))) client) then reply_standing number (in_box logs (Replica p) (Client client))
    else if has_ask number (held shape client (logs (Replica p))) then Holds
    else ask_standing number (in_box logs (Client client) (Replica p))

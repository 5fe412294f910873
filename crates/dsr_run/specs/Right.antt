-- When all that clients accepted is right (Schneider 1990: the replies are those of one machine that processes the requests one
-- after another; this project adds that no place is before what the client knew of when it asked).
use Rattle.std.specs.Prelude.{◌≡◌, ℕ, ◌<◌, ◌≤◌, ◌==◌, Bool, false, List, [], ◌∷◌, ◌++◌, Option, None, Some, if◌then◌else◌}
use Rattle.std.specs.Option.{option_or}
use Rattle.dsr_base.specs.Growth.{Extends}
use Rattle.dsr_base.specs.Member.{In}
use Rattle.dsr_names.specs.Shape.{Shape, IsLoyal}
use Rattle.dsr_names.specs.declared.actor.Actor.TheVariants.{Replica, Client}
use Rattle.dsr_request.specs.Request.{Request}
use Rattle.dsr_ledger.specs.declared.reply.Reply.{Reply as AReply}
use Rattle.dsr_history.specs.History.{StandsAt, IsLegal}
use Rattle.dsr_chain.specs.declared.signed_request.SignedRequest.{SignedRequest}
use Rattle.dsr_envelope.specs.declared.envelope.Envelope.{Envelope}
use Rattle.dsr_envelope.specs.declared.envelope.Envelope.TheVariants.{Empty, Round, Ask, Reply, Seen}
use Rattle.dsr_envelope.specs.declared.entry.Entry.{Entry}
use Rattle.dsr_envelope.specs.declared.entry.Entry.TheVariants.{Post, Take}
use Rattle.dsr_client.specs.State.{outstanding, seen}
use Rattle.dsr_client.specs.Issue.{issue_front}
use Rattle.dsr_run.specs.History.{accepted_by, history}
use Rattle.dsr_run.specs.Step.{Step, log_of}

-- a client's accepted reply is right: at its place in the history is the very request that the client posted under its number,
-- with this answer there; and the place is not before the issue front
pub record IsRightReply (shape : Shape) (history : List Request) (log : List Entry) (reply : AReply) : Type 0 where
  pub replica : ℕ
  pub ask : SignedRequest
  pub posted : In (Post (Replica replica) (Ask ask)) log
  pub number : ask.request.number ≡ reply.number
  pub stands : StandsAt history reply.place ask.request reply.answer
  pub front : ℕ
  pub issued : issue_front shape reply.number log ≡ Some front
  pub not_before : front ≤ reply.place

-- a client took, while its request with this number was outstanding, a reply to it from each loyal replica
pub record TookAllReplies (shape : Shape) (log : List Entry) (number : ℕ) : Type 0 where
  pub older : List Entry
  pub newer : List Entry
  pub parts : log ≡ newer ++ older
  pub ask : SignedRequest
  pub asked : outstanding shape older ≡ Some ask
  pub is_number : ask.request.number ≡ number
  pub took : (p : ℕ) → IsLoyal shape (Replica p) → (reply : AReply) × In (Take (Replica p) (Reply reply)) newer × (reply.number ≡ number)

-- one of the replies has this number
abbrev pub HasReplyTo : ℕ → List AReply → Type 0
HasReplyTo number replies = (reply : AReply) × In reply replies × (reply.number ≡ number)

-- a run is right if each reply that a client accepted is right, no number of a client is in the history twice, and the history has
-- only grown since any earlier time of the run
pub record IsRight (shape : Shape) (run : List Step) : Type 0 where
  pub replies : (c : ℕ) → c < shape.m → (reply : AReply) → In reply (accepted_by shape (log_of run) c)
      → IsRightReply shape (history shape (log_of run)) (log_of run (Client c)) reply
  pub legal : IsLegal (history shape (log_of run))
  pub grew : (earlier : List Step) → Extends run earlier → Extends (history shape (log_of run)) (history shape (log_of earlier))

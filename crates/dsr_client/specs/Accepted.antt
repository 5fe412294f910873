-- Facts behind an accepted reply (Schneider 1990: of f+1 replicas one is loyal).
use Rattle.std.specs.Prelude.{◌≡◌, ℕ, suc, ◌<◌, Bool, true, List, [], ◌∷◌, ◌++◌, None, Some, length}
use Rattle.dsr_base.specs.Bits.{count_below}
use Rattle.dsr_base.specs.Member.{In}
use Rattle.dsr_names.specs.Shape.{Shape}
use Rattle.dsr_names.specs.declared.actor.Actor.TheVariants.{Replica}
use Rattle.dsr_ledger.specs.declared.reply.Reply.{Reply as AReply}
use Rattle.dsr_chain.specs.declared.signed_request.SignedRequest.{SignedRequest}
use Rattle.dsr_envelope.specs.declared.envelope.Envelope.TheVariants.{Ask, Reply}
use Rattle.dsr_envelope.specs.declared.entry.Entry.{Entry}
use Rattle.dsr_envelope.specs.declared.entry.Entry.TheVariants.{Post, Take}
use Rattle.dsr_client.specs.State.{outstanding, accepted}

-- the reply was taken from this replica when a request with its number was outstanding
pub record WasTaken (shape : Shape) (log : List Entry) (replica : ℕ) (reply : AReply) : Type 0 where
  pub newer : List Entry
  pub older : List Entry
  pub ask : SignedRequest
  pub parts : log ≡ newer ++ Take (Replica replica) (Reply reply) ∷ older
  pub current : outstanding shape older ≡ Some ask
  pub number : reply.number ≡ ask.request.number

-- more than f replicas gave the reply, each in a take when a request with its number was outstanding
pub record WasAccepted (shape : Shape) (log : List Entry) (reply : AReply) : Type 0 where
  pub gave : ℕ → Bool
  pub enough : shape.f < count_below gave shape.n
  pub taken : (p : ℕ) → p < shape.n → gave p ≡ true → WasTaken shape log p reply

-- the replies, newest first, have the numbers 1, 2, 3 .. in the order in which they were accepted (this project)
abbrev pub AreNumbered : List AReply → Type 0
AreNumbered [] = Unit {0}
AreNumbered (reply ∷ older) = (reply.number ≡ suc (length older)) × AreNumbered older

-- the ask was posted to some replica (this project)
pub record WasPosted (log : List Entry) (ask : SignedRequest) : Type 0 where
  pub replica : ℕ
  pub posted : In (Post (Replica replica) (Ask ask)) log

-- the entry accepts nothing, and an outstanding request stays outstanding (this project)
pub record AcceptsNone (shape : Shape) (entry : Entry) (log : List Entry) : Type 0 where
  pub same : accepted shape (entry ∷ log) ≡ accepted shape log
  pub still : (ask : SignedRequest) → outstanding shape log ≡ Some ask → outstanding shape (entry ∷ log) ≡ Some ask

-- the entry accepts this reply: it takes it from a replica when a request with its number is outstanding, and then none
-- is (this project)
pub record Accepts (shape : Shape) (entry : Entry) (log : List Entry) (reply : AReply) : Type 0 where
  pub replica : ℕ
  pub taken : entry ≡ Take (Replica replica) (Reply reply)
  pub ask : SignedRequest
  pub current : outstanding shape log ≡ Some ask
  pub number : reply.number ≡ ask.request.number
  pub more : accepted shape (entry ∷ log) ≡ reply ∷ accepted shape log
  pub done : outstanding shape (entry ∷ log) ≡ None

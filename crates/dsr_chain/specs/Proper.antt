-- When a chain of signatures is proper (Dolev and Strong 1983: a message of round r counts when it carries the value with
-- r distinct signatures, the sender's first; in this project clients also sign the requests of the value).
use Rattle.std.specs.Prelude.{◌≡◌, ◌≢◌, ℕ, ◌<◌, Some, All, AllPairs, length, take, slice_get}
use Rattle.dsr_names.specs.Shape.{Shape, sender}
use Rattle.dsr_names.specs.declared.actor.Actor.{Actor}
use Rattle.dsr_names.specs.declared.actor.Actor.TheVariants.{Replica, Client}
use Rattle.dsr_desk.specs.Signature.{Signature, signed}
use Rattle.dsr_desk.specs.declared.statement.Statement.{Statement}
use Rattle.dsr_desk.specs.declared.statement.Statement.TheVariants.{Ask}
use Rattle.dsr_chain.specs.Content.{signed_in}
use Rattle.dsr_chain.specs.Chain.{Chain, signers_of, link_after}
use Rattle.dsr_chain.specs.declared.signed_request.SignedRequest.{SignedRequest}

-- a replica of the shape
abbrev pub IsReplica : Shape → Actor → Type 0
IsReplica shape (Replica r) = r < shape.n
IsReplica shape (Client c) = ⊥

-- the actor that is the sender of a slot
abbrev pub sender_of : Shape → ℕ → Actor
sender_of shape slot = Replica (sender shape slot)

-- the statement that fits a place: the chain's slot, its content, and the signers before that place
abbrev pub fitting_at : Chain → ℕ → Statement
fitting_at chain place = link_after chain.slot chain.value (signers_of (take place chain.signatures))

-- the client is in the shape, and the signature beside its request is that client's on that request
pub record IsAsked (shape : Shape) (s : SignedRequest) : Type 0 where
  pub client : s.request.client < shape.m
  pub signature : s.signature ≡ signed (Client s.request.client) (Ask s.request)

-- a proper chain for a round of a slot: it is for that slot, and has as many signatures as the round's number, by
-- distinct replicas of the shape, the sender first, each on the statement that fits its place; and each request is signed
-- by its client
pub record IsProper (shape : Shape) (slot round : ℕ) (chain : Chain) : Type 0 where
  pub of_slot : chain.slot ≡ slot
  pub count : length chain.signatures ≡ round
  pub sender_first : slice_get (signers_of chain.signatures) 0 ≡ Some (sender_of shape slot)
  pub replicas : All (IsReplica shape) (signers_of chain.signatures)
  pub distinct : AllPairs (λ a b. a ≢ b) (signers_of chain.signatures)
  pub fitting : (place : ℕ) (s : Signature) → slice_get chain.signatures place ≡ Some s → s.statement ≡ fitting_at chain place
  pub asked : All (IsAsked shape) (signed_in chain.value)

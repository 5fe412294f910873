-- The faults of chains, in the order in which a check looks for them (this project).
use Rattle.std.specs.Prelude.{◌≡◌, ◌≢◌, ℕ, ◌<◌, List, Some, Any, length, slice_get}
use Rattle.dsr_names.specs.Shape.{Shape}
use Rattle.dsr_names.specs.declared.actor.Actor.{Actor}
use Rattle.dsr_desk.specs.Signature.{Signature}
use Rattle.dsr_chain.specs.Content.{signed_in}
use Rattle.dsr_chain.specs.Chain.{Chain, signers_of}
use Rattle.dsr_chain.specs.Proper.{IsReplica, IsAsked, sender_of, fitting_at}
use Rattle.dsr_chain.specs.declared.fault.ChainFault.{ChainFault}
use Rattle.dsr_chain.specs.declared.fault.ChainFault.TheVariants.{OtherSlot, WrongCount, WrongSender, NoReplica, SignedTwice, Misfit, BadRequest}

-- the chain is for another slot
abbrev pub IsOfOtherSlot : ℕ → Chain → Type 0
IsOfOtherSlot slot chain = chain.slot ≢ slot

-- the number of signatures is not the round's number
abbrev pub HasWrongCount : ℕ → Chain → Type 0
HasWrongCount round chain = length chain.signatures ≢ round

-- the first signer is not the sender of the slot
abbrev pub HasWrongSender : Shape → ℕ → Chain → Type 0
HasWrongSender shape slot chain = slice_get (signers_of chain.signatures) 0 ≢ Some (sender_of shape slot)

-- a signer is not a replica of the shape
abbrev pub HasNoReplica : Shape → Chain → Type 0
HasNoReplica shape chain = Any (λ a. ¬ IsReplica shape a) (signers_of chain.signatures)

-- one actor is at two places of the list
pub record StandsTwice (signers : List Actor) : Type 0 where
  pub first : ℕ
  pub second : ℕ
  pub apart : first < second
  pub signer : Actor
  pub at_first : slice_get signers first ≡ Some signer
  pub at_second : slice_get signers second ≡ Some signer

-- one actor signed twice
abbrev pub IsSignedTwice : Chain → Type 0
IsSignedTwice chain = StandsTwice (signers_of chain.signatures)

-- a signature is on a statement that does not fit its place
pub record HasMisfit (chain : Chain) : Type 0 where
  pub place : ℕ
  pub signature : Signature
  pub stands : slice_get chain.signatures place ≡ Some signature
  pub misfits : signature.statement ≢ fitting_at chain place

-- a request's client is not in the shape, or the signature beside it is not that client's on that request
abbrev pub HasBadRequest : Shape → Chain → Type 0
HasBadRequest shape chain = Any (λ s. ¬ IsAsked shape s) (signed_in chain.value)

-- what each fault says about a chain, for a round of a slot
abbrev pub IsFault : Shape → ℕ → ℕ → Chain → ChainFault → Type 0
IsFault shape slot round chain OtherSlot = IsOfOtherSlot slot chain
IsFault shape slot round chain WrongCount = HasWrongCount round chain
IsFault shape slot round chain WrongSender = HasWrongSender shape slot chain
IsFault shape slot round chain NoReplica = HasNoReplica shape chain
IsFault shape slot round chain SignedTwice = IsSignedTwice chain
IsFault shape slot round chain Misfit = HasMisfit chain
IsFault shape slot round chain BadRequest = HasBadRequest shape chain

-- no fault holds
abbrev pub HasNoFault : Shape → ℕ → ℕ → Chain → Type 0
HasNoFault shape slot round chain = (fault : ChainFault) → ¬ IsFault shape slot round chain fault

-- the rank of a fault in their order, from 0
abbrev pub rank : ChainFault → ℕ
rank OtherSlot = 0
rank WrongCount = 1
rank WrongSender = 2
rank NoReplica = 3
rank SignedTwice = 4
rank Misfit = 5
rank BadRequest = 6

-- the fault holds, and no fault of lower rank does
pub record IsFirstFault (shape : Shape) (slot round : ℕ) (chain : Chain) (fault : ChainFault) : Type 0 where
  pub holds : IsFault shape slot round chain fault
  pub none_before : (other : ChainFault) → rank other < rank fault → ¬ IsFault shape slot round chain other

-- Plain envelopes (this project): what texts could write before the project added lists of requests in values, and removals. No value has
-- more than one request, no operation or answer is a removal, and the same holds for all that is signed.
use Rattle.std.specs.Prelude.{◌≤◌, List, All, length, Option, None, Some}
use Rattle.dsr_request.specs.Request.{Request}
use Rattle.dsr_request.specs.declared.op.Op.{Op}
use Rattle.dsr_request.specs.declared.op.Op.TheVariants.{Read, Write, Swap, Remove}
use Rattle.dsr_request.specs.declared.answer.Answer.{Answer}
use Rattle.dsr_request.specs.declared.answer.Answer.TheVariants.{Held, Written, Swapped, Kept, Full, Removed}
use Rattle.dsr_desk.specs.Signature.{Signature}
use Rattle.dsr_desk.specs.declared.statement.Statement.{Statement}
use Rattle.dsr_desk.specs.declared.statement.Statement.TheVariants.{Ask, Link}
use Rattle.dsr_chain.specs.Chain.{Chain}
use Rattle.dsr_chain.specs.Content.{content, signed_in}
use Rattle.dsr_chain.specs.declared.signed_request.SignedRequest.{SignedRequest}
use Rattle.dsr_envelope.specs.declared.envelope.Envelope.{Envelope}
use Rattle.dsr_envelope.specs.declared.envelope.Envelope.TheVariants as envelope

-- an operation that removes nothing
abbrev pub IsPlainOp : Op → Type 0
IsPlainOp (Read name) = Unit {0}
IsPlainOp (Write name value) = Unit {0}
IsPlainOp (Swap name from to) = Unit {0}
IsPlainOp (Remove name) = ⊥

-- an answer that reports no removal
abbrev pub IsPlainAnswer : Answer → Type 0
IsPlainAnswer (Held old) = Unit {0}
IsPlainAnswer Written = Unit {0}
IsPlainAnswer Swapped = Unit {0}
IsPlainAnswer (Kept old) = Unit {0}
IsPlainAnswer Full = Unit {0}
IsPlainAnswer (Removed old) = ⊥

-- a request that removes nothing
abbrev pub IsPlainRequest : Request → Type 0
IsPlainRequest request = IsPlainOp request.op

-- a content with at most one request, which removes nothing
abbrev pub IsPlainContent : Option (List Request) → Type 0
IsPlainContent None = Unit {0}
IsPlainContent (Some requests) = (length requests ≤ 1) × All IsPlainRequest requests

-- a statement with such a request, or such a content
abbrev pub IsPlainStatement : Statement → Type 0
IsPlainStatement (Ask request) = IsPlainRequest request
IsPlainStatement (Link slot value before) = IsPlainContent value

-- a signature on such a statement
abbrev pub IsPlainSignature : Signature → Type 0
IsPlainSignature s = IsPlainStatement s.statement

-- a request that removes nothing, with such a signature beside it
abbrev pub IsPlainAsk : SignedRequest → Type 0
IsPlainAsk ask = IsPlainRequest ask.request × IsPlainSignature ask.signature

-- a chain with a value of at most one request, and only such requests and signatures
pub record IsPlainChain (chain : Chain) : Type 0 where
  pub content : IsPlainContent (content chain.value)
  pub requests : All IsPlainAsk (signed_in chain.value)
  pub signatures : All IsPlainSignature chain.signatures

-- an envelope in which no value has more than one request and nothing is removed
abbrev pub IsPlain : Envelope → Type 0
IsPlain envelope.Empty = Unit {0}
IsPlain (envelope.Round round chains) = All IsPlainChain chains
IsPlain (envelope.Ask request) = IsPlainAsk request
IsPlain (envelope.Reply reply) = IsPlainAnswer reply.answer
IsPlain (envelope.Seen front) = Unit {0}

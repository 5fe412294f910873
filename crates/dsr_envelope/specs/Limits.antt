-- The limits of what an envelope carries (this project): what texts can encode.
use Rattle.std.specs.Prelude.{ℕ, ◌^◌, ◌<◌, ◌≤◌, List, All, length}
use Rattle.dsr_names.specs.Actor.{IsNumbered}
use Rattle.dsr_request.specs.RequestText.{IsRequest}
use Rattle.dsr_ledger.specs.declared.reply.Reply.{Reply as AReply}
use Rattle.dsr_desk.specs.Signature.{Signature}
use Rattle.dsr_desk.specs.StatementText.{IsStatement}
use Rattle.dsr_chain.specs.Chain.{Chain}
use Rattle.dsr_chain.specs.Content.{signed_in}
use Rattle.dsr_chain.specs.declared.signed_request.SignedRequest.{SignedRequest}
use Rattle.dsr_envelope.specs.declared.envelope.Envelope.{Envelope}
use Rattle.dsr_envelope.specs.declared.envelope.Envelope.TheVariants.{Empty, Round, Ask, Reply, Seen}

-- below the limit of rounds, slots, places, seen fronts and numbers
abbrev pub IsCount : ℕ → Type 0
IsCount number = number < 2 ^ 40

-- a signature within the limits
pub record IsSignature (s : Signature) : Type 0 where
  pub signer : IsNumbered s.signer
  pub statement : IsStatement s.statement

-- a signed request within the limits
pub record IsSigned (s : SignedRequest) : Type 0 where
  pub request : IsRequest s.request
  pub signature : IsSignature s.signature

-- a chain within the limits: at most 8 requests and at most 16 signatures
pub record IsChain (chain : Chain) : Type 0 where
  pub slot : IsCount chain.slot
  pub few_requests : length (signed_in chain.value) ≤ 8
  pub requests : All IsSigned (signed_in chain.value)
  pub few_signatures : length chain.signatures ≤ 16
  pub signatures : All IsSignature chain.signatures

-- at most 32 chains, each within the limits
pub record AreChains (chains : List Chain) : Type 0 where
  pub few : length chains ≤ 32
  pub each : All IsChain chains

-- a reply within the limits: its number is at least 1. Every answer is within them, since its value is a
-- u64
pub record IsReply (reply : AReply) : Type 0 where
  pub some_number : 0 < reply.number
  pub number : IsCount reply.number
  pub place : IsCount reply.place

-- an envelope within the limits
abbrev pub IsEnvelope : Envelope → Type 0
IsEnvelope Empty = Unit {0}
IsEnvelope (Round round chains) = IsCount round × AreChains chains
IsEnvelope (Ask request) = IsSigned request
IsEnvelope (Reply reply) = IsReply reply
IsEnvelope (Seen front) = IsCount front

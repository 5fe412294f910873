-- How texts write signed requests, values and chains (this project): `c0#7:write:a:5~c0`, and `0/c0#1:write:a:5~c0/r1+r0`.
use Rattle.std.specs.Prelude.{ℕ, List, [], ◌∷◌, ◌++◌, Option, codes}
use Rattle.std.specs.Fmt.{decimal}
use Rattle.dsr_base.specs.Joined.{joined, joined_or_dash, AreFew, AreUpTo}
use Rattle.dsr_names.specs.declared.actor.Actor.{Actor}
use Rattle.dsr_request.specs.Request.{Request}
use Rattle.dsr_request.specs.RequestText.{request_token}
use Rattle.dsr_desk.specs.Signature.{Signature}
use Rattle.dsr_desk.specs.declared.statement.Statement.TheVariants.{Ask, Link}
use Rattle.dsr_chain.specs.Chain.{Chain}
use Rattle.dsr_chain.specs.Content.{content}
use Rattle.dsr_chain.specs.declared.signed_request.SignedRequest.{SignedRequest}
use Rattle.dsr_chain.specs.declared.slot_value.SlotValue.{SlotValue}
use Rattle.dsr_chain.specs.declared.slot_value.SlotValue.TheVariants.{Idle, Act}
use Rattle.dsr_envelope.specs.Limits.{IsCount, IsSignature, IsSigned}
use Rattle.dsr_script.specs.SignatureText.{Spelled, spelled_at, spelled_text, signature_text}

-- the text of a signed request: the request, `~`, and the signature, at a place that the request fits
abbrev pub signed_text : SignedRequest → List ℕ
signed_text ask = request_token ask.request ++ 126 ∷ signature_text (Ask ask.request) ask.signature

-- the text of a value: `idle`, or its signed requests joined by commas
abbrev pub value_text : SlotValue → List ℕ
value_text Idle = codes "idle"
value_text (Act batch) = joined 44 signed_text batch

-- what texts say about the signatures of a chain after these signers: each one's place fits the slot, the
-- content and the signers before it
abbrev pub spelled_links : ℕ → Option (List Request) → List Actor → List Signature → List Spelled
spelled_links slot value before [] = []
spelled_links slot value before (s ∷ ss) = spelled_at (Link slot value before) s ∷ spelled_links slot value (before ++ s.signer ∷ []) ss

-- the text of a chain's signatures: joined by plus signs, or a dash for an empty list
abbrev pub links_text : Chain → List ℕ
links_text chain = joined_or_dash 43 spelled_text (spelled_links chain.slot (content chain.value) [] chain.signatures)

-- the text of a chain: slot, value and signatures, with slashes between them
abbrev pub chain_text : Chain → List ℕ
chain_text chain = decimal chain.slot ++ 47 ∷ (value_text chain.value ++ 47 ∷ links_text chain)

-- a value that a text can write: idle, or 1 to 8 signed requests
abbrev pub IsValue : SlotValue → Type 0
IsValue Idle = Unit {0}
IsValue (Act batch) = AreFew IsSigned 8 batch

-- a chain that a text can write: a slot below 2^40, a value that a text can write, and at most 16 signatures
pub record IsSpelledChain (chain : Chain) : Type 0 where
  pub slot : IsCount chain.slot
  pub value : IsValue chain.value
  pub signatures : AreUpTo IsSignature 16 chain.signatures

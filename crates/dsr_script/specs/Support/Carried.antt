-- The list of the signatures that an envelope carries.
use Rattle.std.specs.Prelude.{◌≡◌, List, [], ◌∷◌, ◌++◌, flat_map, All, Any}
use Rattle.dsr_names.specs.declared.actor.Actor.{Actor}
use Rattle.dsr_desk.specs.Signature.{Signature}
use Rattle.dsr_chain.specs.Chain.{Chain}
use Rattle.dsr_chain.specs.Content.{signed_in}
use Rattle.dsr_base.specs.Member.{In}
use Rattle.dsr_envelope.specs.Envelope.{IsOn}
use Rattle.dsr_envelope.specs.declared.envelope.Envelope.{Envelope}
use Rattle.dsr_envelope.specs.declared.envelope.Envelope.TheVariants.{Empty, Round, Ask, Reply, Seen}
use Rattle.dsr_chain.specs.declared.signed_request.SignedRequest.{SignedRequest}
use Rattle.dsr_script.specs.Held.{IsHeldOrKnown}
use Rattle.dsr_script.specs.SignatureText.{Spelled}
use Rattle.dsr_script.specs.Support.Noted.{beside}

-- those on a chain: its own, then those beside the requests of its value
abbrev pub on_chain : Chain → List Signature
on_chain chain = chain.signatures ++ beside (signed_in chain.value)

-- those of an envelope
abbrev pub carried : Envelope → List Signature
carried Empty = []
carried (Round round chains) = flat_map on_chain chains
carried (Ask request) = request.signature ∷ []
carried (Reply reply) = []
carried (Seen front) = []

-- the signer that the text names holds one of these keys
pub record IsByHolder (holders : List Actor) (x : Spelled) : Type 0 where
  pub signer : Any (λ holder. holder ≡ x.signer) holders

-- the signature beside the request is by the holder of one of the keys, or is known
abbrev pub IsHeldRequest : List Actor → List Signature → SignedRequest → Type 0
IsHeldRequest holders known ask = IsHeldOrKnown holders known ask.signature

-- each signature on the chain is by the holder of one of the keys, or is known
pub record IsHeldChain (holders : List Actor) (known : List Signature) (chain : Chain) : Type 0 where
  pub links : All (IsHeldOrKnown holders known) chain.signatures
  pub asks : All (IsHeldRequest holders known) (signed_in chain.value)

-- each signature that the envelope carries is by the holder of one of the keys, or is known
abbrev pub IsHeldEnvelope : List Actor → List Signature → Envelope → Type 0
IsHeldEnvelope holders known Empty = Unit {0}
IsHeldEnvelope holders known (Round round chains) = All (IsHeldChain holders known) chains
IsHeldEnvelope holders known (Ask request) = IsHeldRequest holders known request
IsHeldEnvelope holders known (Reply reply) = Unit {0}
IsHeldEnvelope holders known (Seen front) = Unit {0}

-- the signature is on one of these chains
abbrev pub IsOnOne : List Chain → Signature → Type 0
IsOnOne chains s = (chain : Chain) × In chain chains × IsOn s chain

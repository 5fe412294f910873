-- Signatures noted in turn, each once.
use Rattle.std.specs.Prelude.{List, [], ◌∷◌, fold, map, if◌then◌else◌}
use Rattle.dsr_desk.specs.Signature.{Signature}
use Rattle.dsr_chain.specs.declared.signed_request.SignedRequest.{SignedRequest}
use Rattle.dsr_script.specs.Support.SignatureEquality.{signature_eq}

-- these signatures and this one: unchanged if it is among them, else with it at the end
abbrev pub noted : List Signature → Signature → List Signature
noted [] s = s ∷ []
noted (x ∷ xs) s = if signature_eq s x then x ∷ xs else x ∷ noted xs s

-- these signatures and those
abbrev pub noted_all : List Signature → List Signature → List Signature
noted_all known signatures = fold noted known signatures

-- the signatures beside these requests
abbrev pub beside : List SignedRequest → List Signature
beside asks = map (λ ask. ask.signature) asks

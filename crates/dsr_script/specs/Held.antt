-- What can be posted without forging (Dolev and Strong 1983: nobody makes a signature of another; whoever saw one can send it on).
use Rattle.std.specs.Prelude.{◌≡◌, ◌⊎◌, List, Any}
use Rattle.dsr_base.specs.Member.{In}
use Rattle.dsr_names.specs.declared.actor.Actor.{Actor}
use Rattle.dsr_desk.specs.Signature.{Signature}
use Rattle.dsr_envelope.specs.Envelope.{Carries}
use Rattle.dsr_envelope.specs.declared.envelope.Envelope.{Envelope}

-- one of these holders of keys is the signer
abbrev pub IsHeld : List Actor → Signature → Type 0
IsHeld holders s = Any (λ holder. holder ≡ s.signer) holders

-- the signature is by the holder of one of the keys, or is known
abbrev pub IsHeldOrKnown : List Actor → List Signature → Signature → Type 0
IsHeldOrKnown holders known s = IsHeld holders s ⊎ In s known

-- no signature of the envelope is forged: each is by the holder of one of the keys, or is known
abbrev pub IsUnforged : List Actor → List Signature → Envelope → Type 0
IsUnforged holders known envelope = (s : Signature) → Carries envelope s → IsHeldOrKnown holders known s

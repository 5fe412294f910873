-- What a text can write is within the limits of envelopes.
use Rattle.std.proofs.Common.{◌≤◌, length, arith}
use Rattle.std.specs.Prelude.{All}
use Rattle.std.proofs.lemmas.List.Elements.{All-nil, All-weaker}
use Rattle.dsr_chain.specs.Chain.{Chain}
use Rattle.dsr_chain.specs.Content.{signed_in}
use Rattle.dsr_chain.specs.declared.slot_value.SlotValue.{SlotValue}
use Rattle.dsr_chain.specs.declared.slot_value.SlotValue.TheVariants.{Idle, Act}
use Rattle.dsr_envelope.specs.Limits.{IsSigned, IsChain, IsEnvelope}
use Rattle.dsr_envelope.specs.declared.envelope.Envelope.{Envelope}
use Rattle.dsr_envelope.specs.declared.envelope.Envelope.TheVariants.{Empty, Round, Ask, Reply, Seen}
use Rattle.dsr_script.specs.ChainText.{IsValue, IsSpelledChain}
use Rattle.dsr_script.specs.EnvelopeText.{IsSpelledEnvelope}

few_in : (value : SlotValue) → IsValue value → length (signed_in value) ≤ 8
few_in Idle h = omega arith
few_in (Act batch) h = h.few

all_in : (value : SlotValue) → IsValue value → All IsSigned (signed_in value)
all_in Idle h = All-nil IsSigned
all_in (Act batch) h = h.each

chain_within : (chain : Chain) → IsSpelledChain chain → IsChain chain
chain_within chain h = record {
  slot = h.slot;
  few_requests = few_in chain.value h.value;
  requests = all_in chain.value h.value;
  few_signatures = h.signatures.few;
  signatures = h.signatures.each;
}

-- an envelope that a text can write is within the limits
pub spelled_within : (envelope : Envelope) → IsSpelledEnvelope envelope → IsEnvelope envelope
spelled_within Empty h = tt
spelled_within (Round round chains) h = (h.0, record { few = h.1.few; each = All-weaker IsSpelledChain IsChain chain_within chains h.1.each })
spelled_within (Ask request) h = h
spelled_within (Reply reply) h = h.0
spelled_within (Seen front) h = h

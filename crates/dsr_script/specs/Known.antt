-- Signatures that were seen (Dolev and Strong 1983: whoever holds a message can send on the signatures in it, and no others
-- of their signers).
use Rattle.std.specs.Prelude.{ℕ, ◌*◌, ◌↔◌, List, length}
use Rattle.dsr_base.specs.Member.{In}
use Rattle.dsr_desk.specs.Signature.{Signature}
use Rattle.dsr_envelope.specs.Envelope.{Carries}
use Rattle.dsr_envelope.specs.declared.envelope.Envelope.{Envelope}
use Rattle.dsr_envelope.specs.declared.envelope.Envelope.TheVariants.{Empty, Round, Ask, Reply, Seen}

-- the signatures that are known, and for how many more there is room
pub record Known : Type 0 where
  pub signatures : List Signature
  pub room : ℕ

-- the signature was carried by one of these envelopes
abbrev pub WasCarried : List Envelope → Signature → Type 0
WasCarried envelopes s = (envelope : Envelope) × In envelope envelopes × Carries envelope s

-- the known signatures are exactly those that these envelopes carried
abbrev pub StandFor : List Signature → List Envelope → Type 0
StandFor known envelopes = (s : Signature) → In s known ↔ WasCarried envelopes s

-- the most signatures that the envelope can carry: on each chain 16 links and 8 requests
abbrev pub most_carried : Envelope → ℕ
most_carried Empty = 0
most_carried (Round round chains) = length chains * 24
most_carried (Ask request) = 1
most_carried (Reply reply) = 0
most_carried (Seen front) = 0

-- Envelopes: what one actor posts to another and the other takes (Dolev and Strong 1983 call it a message).
use Rattle.std.specs.Prelude.{◌≡◌, ◌⊎◌, ℕ, ◌==◌, List, [], ◌∷◌, map, if◌then◌else◌}
use Rattle.dsr_base.specs.Member.{In}
use Rattle.dsr_desk.specs.Signature.{Signature}
use Rattle.dsr_chain.specs.Chain.{Chain}
use Rattle.dsr_chain.specs.Content.{signed_in}
use Rattle.dsr_envelope.specs.declared.envelope.Envelope.{Envelope}
use Rattle.dsr_envelope.specs.declared.envelope.Envelope.TheVariants.{Empty, Round, Ask, Reply, Seen}

-- the envelope of a round with these chains; the empty one if the list is empty
abbrev pub round_envelope : ℕ → List Chain → Envelope
round_envelope round [] = Empty
round_envelope round (chain ∷ more) = Round round (chain ∷ more)

-- the chains that an envelope carries for this round: none unless it is an envelope of this round
abbrev pub chains_for : ℕ → Envelope → List Chain
chains_for t Empty = []
chains_for t (Round round chains) = if round == t then chains else []
chains_for t (Ask request) = []
chains_for t (Reply reply) = []
chains_for t (Seen front) = []

-- a signature on a chain: one of the chain's own, or one beside a request of its value
abbrev pub IsOn : Signature → Chain → Type 0
IsOn s chain = In s chain.signatures ⊎ In s (map (λ r. r.signature) (signed_in chain.value))

-- the envelope carries the signature: on a chain, or beside the request that is asked
abbrev pub Carries : Envelope → Signature → Type 0
Carries Empty s = ⊥
Carries (Round round chains) s = (chain : Chain) × In chain chains × IsOn s chain
Carries (Ask request) s = request.signature ≡ s
Carries (Reply reply) s = ⊥
Carries (Seen front) s = ⊥

-- For which clients an envelope asks (this project).
use Rattle.std.specs.Prelude.{◌≡◌, ℕ, List, [], ◌∷◌, ◌++◌, map}
use Rattle.dsr_chain.specs.Chain.{Chain}
use Rattle.dsr_chain.specs.Content.{requests_in}
use Rattle.dsr_envelope.specs.declared.envelope.Envelope.{Envelope}
use Rattle.dsr_envelope.specs.declared.envelope.Envelope.TheVariants.{Round}

-- the envelope has chains, and these are the clients of the requests in the last one, in their order
pub record AsksLastFor (envelope : Envelope) (clients : List ℕ) : Type 0 where
  pub round : ℕ
  pub before : List Chain
  pub last : Chain
  pub chains : envelope ≡ Round round (before ++ last ∷ [])
  pub are : clients ≡ map (λ r. r.client) (requests_in last.value)

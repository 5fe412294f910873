-- Which chains an envelope carries for a round.
use Rattle.std.proofs.Common.{◌≡◌, ◌≢◌, ℕ, ◌==◌, List, [], if◌then◌else◌, refl, ap}
use Rattle.std.proofs.lemmas.Bool.{false_from_ne_true}
use Rattle.std.proofs.lemmas.Bool.Decides.{Decides-eqb}
use Rattle.dsr_chain.specs.Chain.{Chain}
use Rattle.dsr_envelope.specs.Envelope.{chains_for}
use Rattle.dsr_envelope.specs.declared.envelope.Envelope.TheVariants.{Round}

-- those of its own round
pub own_chains : (t : ℕ) (chains : List Chain) → chains_for t (Round t chains) ≡ chains
own_chains t chains = ap (λ b. if b then chains else []) ((Decides-eqb t t).1 refl)

-- none of another
pub other_chains : (t round : ℕ) (chains : List Chain) → round ≢ t → chains_for t (Round round chains) ≡ []
other_chains t round chains other =
    ap (λ b. if b then chains else []) (false_from_ne_true (round == t) (λ e. other ((Decides-eqb round t).0 e)))

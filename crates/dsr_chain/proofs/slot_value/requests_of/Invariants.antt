use Rattle.std.proofs.Common.{◌≡◌, ◌∷◌, take}
use Rattle.std.specs.Prelude.{map}
use Rattle.dsr_chain.proofs.slot_value.requests_of.Given as goal

abbrev pub invariant-loop-signed : goal.invariant-loop-signed
invariant-loop-signed l = l.requests ≡ l.fn.first ∷ map (λ s. s.request) (take l.signed-index l.rest)

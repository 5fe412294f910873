use Rattle.std.proofs.Common.{◌≡◌, map}
use Rattle.std.specs.Prelude.{take}
use Rattle.dsr_script.proofs.draft.clients_of.Given as goal

-- the clients of the requests so far
abbrev pub invariant-loop-ask : goal.invariant-loop-ask
invariant-loop-ask l = l.clients ≡ map (λ r. r.client) (map (λ ask. ask.request) (take l.ask-index l.asks))

use Rattle.std.proofs.Common.{◌≡◌, ℕ, ◌<◌, List, Some}
use Rattle.std.specs.Prelude.{IsSome, slice_get}
use Rattle.dsr_envelope.specs.declared.entry.Entry.{Entry}
use Rattle.dsr_replica.specs.Held.{held}
use Rattle.dsr_replica.specs.Replica.{StandsFor}
use Rattle.dsr_facts.proofs.undue.first_unheld.Given as goal

-- for each client so far an ask is held
abbrev pub invariant-loop-client : goal.invariant-loop-client
invariant-loop-client l = (log : List Entry) → StandsFor l.replica log
    → (i c : ℕ) → i < l.client-index → slice_get l.clients i ≡ Some c → IsSome (held l.replica.shape c log)

use Rattle.std.proofs.Common.{◌≡◌}
use Rattle.std.specs.Prelude.{take}
use Rattle.dsr_lines.specs.Begun.{clients_of}
use Rattle.dsr_lines.proofs.begun.clients_of.Given as goal

-- the clients of the requests so far
abbrev pub invariant-loop-ask : goal.invariant-loop-ask
invariant-loop-ask l = l.clients.items ≡ clients_of (take l.ask-index l.asks)

use Rattle.std.proofs.Common.{ℕ, ◌<◌, get_or}
use Rattle.dsr_play.proofs.laws.number_clients.Given as goal

abbrev pub invariant-loop-client : goal.invariant-loop-client
invariant-loop-client l = (k d : ℕ) → k < l.client-index → get_or l.clients k d < 32

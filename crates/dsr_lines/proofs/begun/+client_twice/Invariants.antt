use Rattle.std.proofs.Common.{length}
use Rattle.dsr_lines.proofs.begun.+client_twice.Given as goal

abbrev pub decreases-client_twice : goal.decreases-client_twice
decreases-client_twice l = length l.clients.now

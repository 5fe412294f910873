use Rattle.std.proofs.Common.{length}
use Rattle.dsr_script.proofs.forged.+forged_beside.Given as goal

abbrev pub decreases-forged_beside : goal.decreases-forged_beside
decreases-forged_beside l = length l.asks.now

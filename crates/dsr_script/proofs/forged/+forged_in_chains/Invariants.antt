use Rattle.std.proofs.Common.{length}
use Rattle.dsr_script.proofs.forged.+forged_in_chains.Given as goal

abbrev pub decreases-forged_in_chains : goal.decreases-forged_in_chains
decreases-forged_in_chains l = length l.chains.now

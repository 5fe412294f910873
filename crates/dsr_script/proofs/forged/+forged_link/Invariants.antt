use Rattle.std.proofs.Common.{length}
use Rattle.dsr_script.proofs.forged.+forged_link.Given as goal

abbrev pub decreases-forged_link : goal.decreases-forged_link
decreases-forged_link l = length l.links.now

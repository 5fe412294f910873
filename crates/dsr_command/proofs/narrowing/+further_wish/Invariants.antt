use Rattle.std.proofs.Common.{length}
use Rattle.dsr_command.proofs.narrowing.+further_wish.Given as goal

abbrev pub decreases-further_wish : goal.decreases-further_wish
decreases-further_wish g l = length l.words.now

use Rattle.std.proofs.Common.{length}
use Rattle.dsr_explain.proofs.pieces.+put_more.Given as goal

abbrev pub decreases-put_more : goal.decreases-put_more
decreases-put_more l = length l.signed.now

use Rattle.std.proofs.Common.{length}
use Rattle.dsr_reasons.proofs.writer.Writer.+put_others.Given as goal

abbrev pub decreases-put_others : goal.decreases-put_others
decreases-put_others l = length l.signers.now

use Rattle.std.proofs.Common.{length}
use Rattle.dsr_reasons.proofs.writer.Writer.+put_more.Given as goal

abbrev pub decreases-put_more : goal.decreases-put_more
decreases-put_more l = length l.requests.now

use Rattle.dsr_script.proofs.SpelledWithin.{spelled_within}
use Rattle.dsr_script.proofs.laws.spelled_is_within_limits.Goals as goal

pub returns : goal.returns
returns c = spelled_within

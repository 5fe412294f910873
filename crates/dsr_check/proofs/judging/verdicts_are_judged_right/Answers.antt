use Rattle.dsr_check.proofs.VerdictLemmas.{judged_right}
use Rattle.dsr_check.proofs.judging.verdicts_are_judged_right.Goals as goal

pub returns : goal.returns
returns c shape run verdict few is of_run = judged_right shape run verdict few is of_run

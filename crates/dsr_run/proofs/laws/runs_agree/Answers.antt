use Rattle.dsr_run.proofs.Agreements.{all_agree}
use Rattle.dsr_run.proofs.laws.runs_agree.Goals as goal

pub returns : goal.returns
returns c shape run few is = all_agree shape run few is

use Rattle.dsr_run.proofs.Righting.{right_reply, all_right}
use Rattle.dsr_run.proofs.headline.runs_are_right.Goals as goal

pub returns-clause-right : goal.returns-clause-right
returns-clause-right c shape run few is = all_right shape few run is

pub returns-clause-replies : goal.returns-clause-replies
returns-clause-replies c shape run few is client reply h = right_reply shape few run is client reply h

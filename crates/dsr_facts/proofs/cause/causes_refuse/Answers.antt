use Rattle.dsr_facts.proofs.CauseLemmas.{cause_refuses}
use Rattle.dsr_facts.proofs.cause.causes_refuse.Goals as goal

pub returns : goal.returns
returns c shape logs event cause holds = cause_refuses shape logs event cause holds

use Rattle.dsr_run.proofs.Offering.{goes_on}
use Rattle.dsr_run.proofs.answered.loyal_replicas_may_be_eager.Goals as goal

pub returns : goal.returns
returns c shape some me log is = let h = goes_on shape log me is some in (h.envelope, h.next, h.eager)

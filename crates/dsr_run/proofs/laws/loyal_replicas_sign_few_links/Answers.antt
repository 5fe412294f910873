use Rattle.dsr_run.proofs.Links.{two_links, one_link}
use Rattle.dsr_run.proofs.laws.loyal_replicas_sign_few_links.Goals as goal

pub returns-clause-two : goal.returns-clause-two
returns-clause-two c shape run is slot p loyal = two_links shape run is slot p loyal

pub returns-clause-one : goal.returns-clause-one
returns-clause-one c shape run is slot p loyal sends = one_link shape run is slot p loyal sends

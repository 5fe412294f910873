use Rattle.dsr_client.proofs.Answering.{answered}
use Rattle.dsr_client.proofs.laws.loyal_replies_are_accepted.Goals as goal

pub returns : goal.returns
returns c shape older newer ask reply few most current number taken agree = answered shape few older ask reply most number newer (λ p r loyal inside same. agree p r loyal inside same) current taken

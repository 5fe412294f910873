use Rattle.dsr_run.proofs.Righting.{all_taken_answered}
use Rattle.dsr_run.proofs.headline.clients_are_answered.Goals as goal

pub returns : goal.returns
returns c shape run few most is client number took = all_taken_answered shape few most run is client number took

use Rattle.dsr_run.proofs.Tight.{not_sooner}
use Rattle.dsr_run.proofs.TightThree.{not_sooner_of_three}
use Rattle.dsr_run.proofs.answered.eager_replicas_answer_no_sooner.Goals as goal

pub returns-clause-one : goal.returns-clause-one
returns-clause-one c = not_sooner

pub returns-clause-three : goal.returns-clause-three
returns-clause-three c = not_sooner_of_three

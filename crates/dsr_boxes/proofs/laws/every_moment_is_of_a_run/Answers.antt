use Rattle.dsr_run.specs.Step.{log_of}
use Rattle.dsr_boxes.proofs.Plainly.{plainly}
use Rattle.dsr_boxes.proofs.laws.every_moment_is_of_a_run.Goals as goal

pub returns : goal.returns
returns c shape table kept = (log_of kept.run, plainly shape table kept)

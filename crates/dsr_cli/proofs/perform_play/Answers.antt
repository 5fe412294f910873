use Rattle.dsr_cli.proofs.StatusLemmas.{play_ended}
use Rattle.dsr_cli.proofs.perform_play.Goals as goal

pub returns-in-Ok-clause-done : goal.returns-in-Ok-clause-done
returns-in-Ok-clause-done g c = rw (c.play_ending.ensures) (play_ended _ _ _ _ c.in-Ok.ensures.done)

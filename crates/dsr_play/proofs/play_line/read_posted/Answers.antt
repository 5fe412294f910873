use Rattle.dsr_play.proofs.PlayPartLemmas.{no_space, reads_zip, actor_spaceless}
use Rattle.dsr_play.proofs.play_line.read_posted.Goals as goal

pub returns-in-None : goal.returns-in-None
returns-in-None c = no_space _ _ _ _ actor_spaceless _ c.in-None.ensures.absent

pub returns-in-Some : goal.returns-in-Some
returns-in-Some c =
    rw c.posted.ensures (reads_zip _ _ _ _ actor_spaceless _ _ _ c.in-Some.ensures.found c.in-Some.ensures.first _ _ c.read.ensures c.read_choice.ensures)

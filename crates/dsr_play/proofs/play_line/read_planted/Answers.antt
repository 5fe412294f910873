use Rattle.dsr_play.proofs.PlayPartLemmas.{no_space, reads_zip, actor_spaceless}
use Rattle.dsr_play.proofs.play_line.read_planted.Goals as goal

pub returns-in-None-clause-read : goal.returns-in-None-clause-read
returns-in-None-clause-read c = no_space _ _ _ _ actor_spaceless _ c.in-None.ensures.absent

pub returns-in_ok-read_end-in-Some-clause-read : goal.returns-in_ok-read_end-in-Some-clause-read
returns-in_ok-read_end-in-Some-clause-read c =
    rw c.zip.ensures (reads_zip _ _ _ _ actor_spaceless _ _ _ c.in-Some.ensures.found c.in-Some.ensures.first _ _ c.read.ensures c.in_ok-read_end-in-Some.ensures.read)

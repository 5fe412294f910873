use Rattle.dsr_play.proofs.PlayPartLemmas.{reads_plain, reads_choice}
use Rattle.dsr_play.proofs.play_line.read_choice.Goals as goal

pub returns-in-None : goal.returns-in-None
returns-in-None c = rw c.chosen.ensures (reads_plain _ c.in-None.ensures.absent _ c.read.ensures)

pub returns-in-Some : goal.returns-in-Some
returns-in-Some c =
    rw c.chosen-in-Some.ensures
    (reads_choice _ _ _ c.in-Some.ensures.found c.in-Some.ensures.first _ _ c.read-in-Some.ensures c.read_pick.ensures)

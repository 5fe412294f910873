use Rattle.dsr_play.proofs.PlayLineLemmas.{reads_asks}
use Rattle.dsr_play.proofs.play_line.read_asks.Goals as goal

pub returns-clause-read : goal.returns-clause-read
returns-clause-read c = rw c.in_ok-line.ensures.line (reads_asks _ _ c.read_choice.ensures)

use Rattle.dsr_play.proofs.PlayLineLemmas.{reads_post}
use Rattle.dsr_play.proofs.play_line.read_post.Goals as goal

pub returns-clause-read : goal.returns-clause-read
returns-clause-read c = rw c.in_ok-line.ensures.line (reads_post _ _ c.read_posted.ensures)

use Rattle.dsr_play.proofs.PlayLineLemmas.{not_same_word, reads_posts}
use Rattle.dsr_play.proofs.play_line.read_posts.Goals as goal

pub returns-clause-read : goal.returns-clause-read
returns-clause-read c =
    rw c.in_ok-line.ensures.line
    (reads_posts _ (not_same_word _ _ _ _ c.eq.ensures c.if-eq.false c.as_slice.ensures) _ c.read_choice.ensures)

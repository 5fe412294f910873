use Rattle.std.proofs.Common.{arith}
use Rattle.dsr_play.proofs.PlayLineLemmas.{not_same_word}
use Rattle.dsr_play.proofs.PlayPartLemmas.{other_pick}
use Rattle.dsr_play.proofs.play_line.read_pick.Goals as goal

-- the fifth byte of such a text, or its sixth, is a space
pub returns-in-None : goal.returns-in-None
returns-in-None c pick = grind (arith, c.in-None.ensures.absent 4 0, c.in-None.ensures.absent 5 0)

pub returns-else-eq-2 : goal.returns-else-eq-2
returns-else-eq-2 c =
    other_pick _ _ _ c.in-Some.ensures.found c.in-Some.ensures.first (not_same_word _ _ _ _ c.eq.ensures c.if-eq.false c.as_slice.ensures)
    (not_same_word _ _ _ _ c.eq-else-eq.ensures c.if-eq-2.false c.as_slice-else-eq.ensures)

use Rattle.dsr_play.proofs.PlayLineLemmas.{no_line, reads_line_or_fails}
use Rattle.dsr_play.proofs.play_line.PlayLine.read.Goals as goal

pub returns-in-None-clause-read : goal.returns-in-None-clause-read
returns-in-None-clause-read c = no_line _ c.in-None.ensures.absent

pub returns-in-Some-clause-read : goal.returns-in-Some-clause-read
returns-in-Some-clause-read c = reads_line_or_fails _ _ _ c.in-Some.ensures.found c.in-Some.ensures.first _ c.read_rest.ensures.read

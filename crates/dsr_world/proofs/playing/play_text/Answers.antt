use Rattle.std.proofs.Common.{◌∙◌}
use Rattle.dsr_text.proofs.LinesLemmas.{header_refused}
use Rattle.dsr_play.specs.PlayText.{plays}
use Rattle.dsr_play.proofs.PlayLemmas.{line_clean}
use Rattle.dsr_world.proofs.Playings.{was_played}
use Rattle.dsr_world.proofs.playing.play_text.Goals as goal

-- no line of a play has a line feed in it
pub take_lines-requires-clause-clean : goal.take_lines-requires-clause-clean
take_lines-requires-clause-clean c = line_clean

pub returns-in-Err-clause-refused : goal.returns-in-Err-clause-refused
returns-in-Err-clause-refused c =
    header_refused plays c.as_slice.result.now c.args.text.now c.in-Err.refusal c.as_slice.ensures c.in-Err.ensures.refused

-- the lines that were taken in were played
pub returns-in-Ok-take_lines-clause-played : goal.returns-in-Ok-take_lines-clause-played
returns-in-Ok-take_lines-clause-played c =
    let started = c.in_ok-playing.ensures.shape in
    rw c.into_played.ensures.same
    (was_played c.as_slice.result.now c.args.text.now c.in-Ok.header.rest.now c.in-Ok.header.shape c.take_lines.new.taker c.as_slice.ensures c.in-Ok.ensures.read
    c.in-Ok.ensures.allowed (rw started at c.in-Ok-take_lines.ensures.taken) (c.in-Ok-take_lines.ensures.shape ∙ started))

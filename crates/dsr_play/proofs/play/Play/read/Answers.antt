use Rattle.std.proofs.Common.{refl, ap, sym, ◌∙◌, subst}
use Rattle.dsr_text.specs.Header.{BeginsWithHeader}
use Rattle.dsr_text.proofs.LinesLemmas.{header_refused, its_header, its_lines}
use Rattle.dsr_play.specs.PlayText.{all_events, plays}
use Rattle.dsr_play.proofs.PlayLemmas.{line_clean, same_play, few_events}
use Rattle.dsr_play.proofs.play.Play.read.Goals as goal

-- no line of a play has a line feed in it
pub take_lines-requires-clause-clean : goal.take_lines-requires-clause-clean
take_lines-requires-clause-clean c = line_clean

pub returns-in-Err-clause-refused : goal.returns-in-Err-clause-refused
returns-in-Err-clause-refused c = header_refused plays _ _ _ c.as_slice.ensures c.in-Err.ensures.refused

-- a header that is refused begins no play
pub returns-in-Err-clause-when : goal.returns-in-Err-clause-when
returns-in-Err-clause-when c other s =
    let header = subst (λ t. BeginsWithHeader t c.args.text.now other.shape s.after) (sym c.as_slice.ensures) s.header in
    let ok = (c.in-Err.ensures.when other.shape s.after header).1 s.allowed in
    absurd cc

-- nor do lines follow it that are refused
pub returns-in-Err-take_lines-clause-when : goal.returns-in-Err-take_lines-clause-when
returns-in-Err-take_lines-clause-when c other s =
    let lines = its_lines plays _ _ _ _ c.as_slice.ensures c.in-Ok.ensures.only _ _ s.header s.lines s.begins _ refl in
    c.in-Err-take_lines.ensures.when s.lines lines.0 lines.1

-- and lines that are taken in are those of that play
pub returns-in-Ok-take_lines-clause-only : goal.returns-in-Ok-take_lines-clause-only
returns-in-Ok-take_lines-clause-only c other s =
    let lines = its_lines plays _ _ _ _ c.as_slice.ensures c.in-Ok.ensures.only _ _ s.header s.lines s.begins _ refl in
    let header = its_header plays _ _ _ _ c.as_slice.ensures c.in-Ok.ensures.only _ _ s.header in
    let same = c.in-Ok-take_lines.ensures.shape ∙ header.0 in
    let given = c.in-Ok-take_lines.ensures.only s.lines lines.0 lines.1 ∙ ap (λ shape. all_events shape s.lines) same in
    c.into_play.ensures ∙ same_play _ other c.take_lines.new.taker s same given

-- the events that were taken in are those of the text's lines, so they are few
pub into_play-requires : goal.into_play-requires
into_play-requires c =
    let taken = c.in-Ok-take_lines.ensures.taken in
    rw (taken.gives, c.in-Ok-take_lines.ensures.shape) (few_events _ taken.lines taken.begins.each)

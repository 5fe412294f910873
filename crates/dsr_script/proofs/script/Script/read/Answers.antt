use Rattle.std.proofs.Common.{sym, subst, ◌∙◌}
use Rattle.dsr_text.specs.Header.{BeginsWithHeader}
use Rattle.dsr_script.specs.ServeText.{serve_scripts}
use Rattle.dsr_text.proofs.LinesLemmas.{header_refused, its_header, its_lines}
use Rattle.dsr_script.specs.Script.{SaysTheSame}
use Rattle.dsr_script.proofs.ServeLemmas.{line_clean}
use Rattle.dsr_script.proofs.ScriptLemmas.{says_the_same}
use Rattle.dsr_script.proofs.script.Script.read.Goals as goal

-- no line of a script has a line feed in it
pub take_lines-requires-clause-clean : goal.take_lines-requires-clause-clean
take_lines-requires-clause-clean c = line_clean

pub returns-in-Err-clause-refused : goal.returns-in-Err-clause-refused
returns-in-Err-clause-refused c =
    header_refused serve_scripts c.as_slice.result.now c.args.text.now c.in-Err.refusal c.as_slice.ensures c.in-Err.ensures.refused

-- a header that is refused begins no script
pub returns-in-Err-clause-when : goal.returns-in-Err-clause-when
returns-in-Err-clause-when c other s =
    let header = subst (λ t. BeginsWithHeader t c.args.text.now other.shape s.after) (sym c.as_slice.ensures) s.header in
    let ok = (c.in-Err.ensures.when other.shape s.after header).1 s.allowed in
    absurd cc

-- nor do lines follow it that are refused
pub returns-in-Err-take_lines-clause-when : goal.returns-in-Err-take_lines-clause-when
returns-in-Err-take_lines-clause-when c other s =
    let lines =
    its_lines serve_scripts c.as_slice.result.now c.args.text.now c.in-Ok.header.rest.now c.in-Ok.header.shape c.as_slice.ensures c.in-Ok.ensures.only
    other.shape s.after s.header s.lines s.begins c.in_ok-script.script.shape c.in_ok-script.ensures.shape in
    c.in-Err-take_lines.ensures.when s.lines lines.0 lines.1

-- and what lines give that are taken in is that script
pub returns-in-Ok-take_lines-clause-only : goal.returns-in-Ok-take_lines-clause-only
returns-in-Ok-take_lines-clause-only c other s =
    let lines =
    its_lines serve_scripts c.as_slice.result.now c.args.text.now c.in-Ok.header.rest.now c.in-Ok.header.shape c.as_slice.ensures c.in-Ok.ensures.only
    other.shape s.after s.header s.lines s.begins c.in_ok-script.script.shape c.in_ok-script.ensures.shape in
    let header =
    its_header serve_scripts c.as_slice.result.now c.args.text.now c.in-Ok.header.rest.now c.in-Ok.header.shape c.as_slice.ensures c.in-Ok.ensures.only
    other.shape s.after s.header in
    subst (SaysTheSame other) (sym c.reading.view_is)
    (says_the_same c.args.text.now other c.take_lines.new.taker s (c.in-Ok-take_lines.ensures.shape ∙ (c.in_ok-script.ensures.shape ∙ header.0))
    (c.in-Ok-take_lines.ensures.only s.lines lines.0 lines.1))

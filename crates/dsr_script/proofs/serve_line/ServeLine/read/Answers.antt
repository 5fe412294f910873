use Rattle.std.proofs.Common.{codes, Some, sym, subst}
use Rattle.dsr_base.specs.Reads.{Reads}
use Rattle.dsr_script.specs.ServeText.{line_text, IsLine}
use Rattle.dsr_script.proofs.ServeLemmas.{same_word, not_same_word, no_word, other_word, no_ask, an_ask, no_script, a_script}
use Rattle.dsr_script.proofs.serve_line.ServeLine.read.Goals as goal

pub returns-in_default-clause-read : goal.returns-in_default-clause-read
returns-in_default-clause-read c = no_word c.args.bytes.now c.in_default.ensures.absent

pub returns-in-Some-read_ask-clause-read : goal.returns-in-Some-read_ask-clause-read
returns-in-Some-read_ask-clause-read c =
    subst (λ line. Reads IsLine line_text c.args.bytes.now (Some line)) (sym c.ask_line.ensures)
    (an_ask c.args.bytes.now c.in-Some.word.now c.in-Some.rest.now c.in-Some.ensures.found c.in-Some.ensures.first (same_word c.in-Some.word.now c.as_slice.result.now (codes "ask") c.eq.result c.eq.ensures c.if-eq.true c.as_slice.ensures) c.in-Some-read_ask.fields.0 c.in-Some-read_ask.fields.1
    c.in-Some-read_ask.ensures)

pub returns-in-None-clause-read : goal.returns-in-None-clause-read
returns-in-None-clause-read c =
    no_ask c.args.bytes.now c.in-Some.word.now c.in-Some.rest.now c.in-Some.ensures.found c.in-Some.ensures.first (same_word c.in-Some.word.now c.as_slice.result.now (codes "ask") c.eq.result c.eq.ensures c.if-eq.true c.as_slice.ensures) c.in-None.ensures

pub returns-in-Some-2-clause-read : goal.returns-in-Some-2-clause-read
returns-in-Some-2-clause-read c =
    subst (λ line. Reads IsLine line_text c.args.bytes.now (Some line)) (sym c.draft_line.ensures)
    (a_script c.args.bytes.now c.in-Some.word.now c.in-Some.rest.now c.in-Some.ensures.found c.in-Some.ensures.first (same_word c.in-Some.word.now c.as_slice-else-eq.result.now (codes "script") c.eq-else-eq.result c.eq-else-eq.ensures c.if-eq-2.true c.as_slice-else-eq.ensures)
    c.in-Some-2.fields.0 c.in-Some-2.fields.1.0 c.in-Some-2.fields.1.1.0 c.in-Some-2.fields.1.1.1
    (rw c.in-Some-2.is at c.in_ok-fields.ensures.read))

pub returns-in-None-2-clause-read : goal.returns-in-None-2-clause-read
returns-in-None-2-clause-read c =
    no_script c.args.bytes.now c.in-Some.word.now c.in-Some.rest.now c.in-Some.ensures.found c.in-Some.ensures.first (same_word c.in-Some.word.now c.as_slice-else-eq.result.now (codes "script") c.eq-else-eq.result c.eq-else-eq.ensures c.if-eq-2.true c.as_slice-else-eq.ensures) (rw c.in-None-2.is at c.in_ok-fields.ensures.read)

pub returns-else-eq-2-clause-read : goal.returns-else-eq-2-clause-read
returns-else-eq-2-clause-read c =
    other_word c.args.bytes.now c.in-Some.word.now c.in-Some.rest.now c.in-Some.ensures.found c.in-Some.ensures.first
    (not_same_word c.in-Some.word.now c.as_slice.result.now (codes "ask") c.eq.result c.eq.ensures c.if-eq.false c.as_slice.ensures)
    (not_same_word c.in-Some.word.now c.as_slice-else-eq.result.now (codes "script") c.eq-else-eq.result c.eq-else-eq.ensures c.if-eq-2.false
    c.as_slice-else-eq.ensures)

use Rattle.std.proofs.Common.{sym, ◌∙◌}
use Rattle.std.proofs.lemmas.Bool.{false≢true}
use Rattle.dsr_record.proofs.TitleLemmas.{no_header, second_when, kept_when}
use Rattle.dsr_record.proofs.transcript.read_record.Goals as goal

-- if line 1 is bad in version 1, the text is read in version 2
pub returns-then-has_no_header-clause-when : goal.returns-then-has_no_header-clause-when
returns-then-has_no_header-clause-when c =
    let bad = c.has_no_header.ensures.0 c.if-has_no_header.true in
    second_when c.args.text.now c.read_as.result (no_header c.args.text.now (rw bad at c.read_as-read.ensures.refused)) c.read_as.ensures.when

-- else what was read in version 1 is what there is
pub returns-clause-when : goal.returns-clause-when
returns-clause-when c =
    kept_when c.args.text.now c.read_as-read.result c.read_as-read.ensures.refused
    (λ bad. false≢true (sym c.if-has_no_header.false ∙ c.has_no_header.ensures.1 bad)) c.read_as-read.ensures.when

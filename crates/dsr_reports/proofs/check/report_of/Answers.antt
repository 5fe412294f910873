use Rattle.std.proofs.Common.{◌≡◌, ◌∙◌, ap, reverse, string_bytes, subst, ◌++◌}
use Rattle.std.specs.Prelude.{IfOk}
use Rattle.dsr_reports.specs.Report.{history_text}
use Rattle.dsr_reports.proofs.VerdictLemmas.{pairs_text, lines_written, verdict_told}
use Rattle.dsr_reports.proofs.check.report_of.Goals as goal

pub returns-clause-text : goal.returns-clause-text
returns-clause-text c =
    let verdict = c.args.verdict.now in
    let begun = c.new-report.result in
    let first = c.write_count.new.out in
    let second = c.write_accepted.new.out in
    let whole = c.write_history.new.out in
    let replies = ap (λ pairs. first ++ pairs_text (reverse pairs)) c.accepted.ensures in
    let requests = ap (λ acted. second ++ history_text (reverse acted)) c.history.ensures in
    let lines = lines_written begun first second whole verdict.entries (reverse verdict.accepted) (reverse verdict.history)
    c.new-report.ensures (rw (← c.entries.ensures) c.write_count.ensures) (c.write_accepted.ensures ∙ replies) (c.write_history.ensures ∙ requests) in
    λ shape run is. subst (λ text. IfOk c.finish.result (λ report. string_bytes report ≡ text)) (lines ∙ verdict_told verdict shape run is) c.finish.ensures.whole

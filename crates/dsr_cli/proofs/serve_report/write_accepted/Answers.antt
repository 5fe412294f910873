use Rattle.std.proofs.Common.{◌≡◌, ◌∙◌, ◌++◌, ◌+◌, suc, ap, ap₂, append_assoc, arith}
use Rattle.dsr_mail.specs.Logs.{logs_of}
use Rattle.dsr_run.specs.History.{accepted_by}
use Rattle.dsr_reports.specs.Report.{replies_text, texts_below}
use Rattle.dsr_cli.proofs.serve_report.write_accepted.Goals as goal

pub loop-number-preserved : goal.loop-number-preserved
loop-number-preserved c =
    let shape = c.args.logs.now.shape in
    let logs = logs_of c.args.logs.now in
    let begun = c.args.out.now in
    let number = c.loop-number.number in
    let next : suc number ≡ number + 1 = omega arith in
    c.write_accepted_by.ensures
    ∙ ap₂ (λ text client. text ++ replies_text client (accepted_by shape logs client)) c.loop-number.invariant c.of.ensures
    ∙ append_assoc begun (texts_below number (λ k. replies_text k (accepted_by shape logs k))) (replies_text number (accepted_by shape logs number))
    ∙ ap (λ count. begun ++ texts_below count (λ k. replies_text k (accepted_by shape logs k))) next

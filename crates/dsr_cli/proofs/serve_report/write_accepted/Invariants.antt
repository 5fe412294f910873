use Rattle.std.proofs.Common.{◌≡◌, ◌++◌}
use Rattle.dsr_mail.specs.Logs.{logs_of}
use Rattle.dsr_run.specs.History.{accepted_by}
use Rattle.dsr_reports.specs.Report.{replies_text, texts_below}
use Rattle.dsr_cli.proofs.serve_report.write_accepted.Given as goal

abbrev pub invariant-loop-number : goal.invariant-loop-number
invariant-loop-number l = l.out ≡ l.initial.out ++ texts_below l.number (λ c. replies_text c (accepted_by l.logs.shape (logs_of l.logs) c))

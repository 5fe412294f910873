use Rattle.std.proofs.Common.{◌≡◌, ◌++◌}
use Rattle.dsr_run.specs.History.{seen_by}
use Rattle.dsr_run.specs.Step.{log_of}
use Rattle.dsr_reports.specs.Report.{seen_line, texts_below}
use Rattle.dsr_reports.proofs.report.write_seen.Given as goal

abbrev pub invariant-loop-number : goal.invariant-loop-number
invariant-loop-number l = l.out ≡ l.initial.out ++ texts_below l.number (λ c. seen_line c (seen_by l.stage.shape (log_of l.stage.run) c))

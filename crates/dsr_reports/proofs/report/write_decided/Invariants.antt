use Rattle.std.proofs.Common.{◌≡◌, ◌++◌}
use Rattle.dsr_run.specs.Step.{log_of}
use Rattle.dsr_reports.specs.Report.{decided_of, texts_below}
use Rattle.dsr_reports.specs.Support.Spelled.{IsSpelledAt}
use Rattle.dsr_reports.proofs.report.write_decided.Given as goal

-- the lines of the replicas so far
abbrev pub invariant-loop-number : goal.invariant-loop-number
invariant-loop-number l =
    (l.out ≡ l.initial.out ++ texts_below l.number (λ p. decided_of l.stage.shape (log_of l.stage.run) p))
    × IsSpelledAt l.stage l.spelled

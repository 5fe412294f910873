use Rattle.std.proofs.Common.{◌≡◌, ◌++◌, reverse, take}
use Rattle.dsr_reports.specs.Report.{place_line, texts_of}
use Rattle.dsr_reports.proofs.report.write_history.Given as goal

abbrev pub invariant-loop-place : goal.invariant-loop-place
invariant-loop-place l = l.out ≡ l.initial.out ++ texts_of place_line (reverse (take l.place l.history))

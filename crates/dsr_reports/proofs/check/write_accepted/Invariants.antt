use Rattle.std.proofs.Common.{◌≡◌, ◌++◌, reverse, take}
use Rattle.dsr_reports.specs.Report.{accepted_line, texts_of}
use Rattle.dsr_reports.proofs.check.write_accepted.Given as goal

abbrev pub invariant-loop-client : goal.invariant-loop-client
invariant-loop-client l = l.out ≡ l.initial.out ++ texts_of (λ index pair. accepted_line pair.0 pair.1) (reverse (take l.client-index l.accepted))

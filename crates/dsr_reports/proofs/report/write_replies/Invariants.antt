use Rattle.std.proofs.Common.{◌≡◌, ◌++◌, reverse, take}
use Rattle.dsr_reports.specs.Report.{replies_text}
use Rattle.dsr_reports.proofs.report.write_replies.Given as goal

abbrev pub invariant-loop-reply : goal.invariant-loop-reply
invariant-loop-reply l = l.out ≡ l.initial.out ++ replies_text l.client (reverse (take l.reply-index l.replies))

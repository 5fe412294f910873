use Rattle.std.proofs.Common.{◌≡◌, ◌++◌, reverse, take}
use Rattle.dsr_reports.specs.Report.{dash_text, slot_text, texts_of}
use Rattle.dsr_reports.proofs.report.spell.Given as goal

abbrev pub invariant-loop-decision : goal.invariant-loop-decision
invariant-loop-decision l = l.text ≡ dash_text (reverse l.decisions) ++ texts_of slot_text (reverse (take l.decision-index l.decisions))

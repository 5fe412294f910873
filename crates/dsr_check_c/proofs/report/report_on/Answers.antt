use Rattle.std.proofs.Common.{inr, ap, ◌∙◌}
use Rattle.dsr_names.specs.Refusal.{code_of}
use Rattle.dsr_check_c.proofs.ReportLemmas.{not_refused, refused_as}
use Rattle.dsr_check_c.proofs.report.report_on.Goals as goal

pub returns-in-Ok-clause-names : goal.returns-in-Ok-clause-names
returns-in-Ok-clause-names c other line spelled bad = not_refused _ _ _ (c.in-Ok.ensures.names other line spelled bad)

pub returns-in-Err-clause-accepts : goal.returns-in-Err-clause-accepts
returns-in-Err-clause-accepts c other spelled run = inr (c.code.ensures ∙ ap code_of (c.in-Err.ensures.accepts other spelled run))

pub returns-in-Err-clause-names : goal.returns-in-Err-clause-names
returns-in-Err-clause-names c other line spelled bad = refused_as _ c.in-Err.refusal line _ _ c.code.ensures c.named_line.ensures (c.in-Err.ensures.names other line spelled bad)

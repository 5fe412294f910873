use Rattle.std.proofs.Common.{◌≡◌, inr, Err, ap, sym, subst}
use Rattle.dsr_record.specs.Record.{Record}
use Rattle.dsr_run.specs.Run.{IsRun}
use Rattle.dsr_record.specs.FirstBad.{IsFirstBad}
use Rattle.dsr_check_c.proofs.report.checked.Goals as goal

pub returns-in-Ok-clause-accepts : goal.returns-in-Ok-clause-accepts
returns-in-Ok-clause-accepts c other spelled run =
    let same : c.in-Ok.recorded ≡ other = c.in-Ok.ensures.only other spelled in
    c.check.ensures.accepts (subst (λ (r : Record). IsRun r.shape r.run) (sym same) run)

pub returns-in-Ok-clause-names : goal.returns-in-Ok-clause-names
returns-in-Ok-clause-names c other line spelled bad =
    let same : c.in-Ok.recorded ≡ other = c.in-Ok.ensures.only other spelled in
    c.check.ensures.names line (subst (λ (r : Record). IsFirstBad r.shape r.run line) (sym same) bad)

pub returns-in-Err-clause-accepts : goal.returns-in-Err-clause-accepts
returns-in-Err-clause-accepts c other spelled run = c.in-Err.ensures.when other spelled

pub returns-in-Err-clause-names : goal.returns-in-Err-clause-names
returns-in-Err-clause-names c other line spelled bad = inr (ap Err (c.in-Err.ensures.when other spelled))

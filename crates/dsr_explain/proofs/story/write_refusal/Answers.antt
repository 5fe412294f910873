use Rattle.std.proofs.Common.{subst}
use Rattle.dsr_run.specs.Step.{log_of}
use Rattle.dsr_reasons.specs.Reason.{TellsCause}
use Rattle.dsr_explain.proofs.story.write_refusal.Goals as goal

pub returns : goal.returns
returns c =
    let w = c.args.stage.now in (
      c.in_ok-shown.shown.now,
      subst (λ text. TellsCause w.shape (log_of w.run) c.args.event.now c.args.as_data text c.write_why.new.out) c.in_ok-write_refused.ensures.written c.write_why.ensures,
    )

use Rattle.std.proofs.Common.{refl, sym, subst}
use Rattle.std.specs.Prelude.{string_bytes}
use Rattle.dsr_run.specs.Step.{log_of}
use Rattle.dsr_lines.specs.Line.{HoldsFault}
use Rattle.dsr_transcripts.specs.Account.{TellsStep}
use Rattle.dsr_transcripts.proofs.account.tell_stopped.Goals as goal

pub tell_stop-requires : goal.tell_stop-requires
tell_stop-requires c =
    let w = c.args.stage.now in
    let fault = c.args.stop.now.fault in
    let at = c.requires.fault in
    let found = c.step_at-step.ensures w.run at.later at.step at.parts at.counted in
    subst (λ s. HoldsFault s (log_of w.run) c.step_at-step.result.now fault) (sym c.requires.shape)
    (subst (λ step. HoldsFault c.args.recorded.now.shape (log_of w.run) step fault) (sym found) at.why)

pub returns-clause-told : goal.returns-clause-told
returns-clause-told c =
    let w = c.args.stage.now in
    let r = c.args.recorded.now in
    let d = c.args.as_data in
    let line = c.args.stop.now.line in
    let fault = c.args.stop.now.fault in
    let at = c.requires.fault in
    let rest = string_bytes c.in_ok-rest.rest in
    let found = c.step_at-step.ensures w.run at.later at.step at.parts at.counted in
    record {
      first_bad = c.requires.line;
      before = w.run;
      fault = fault;
      at = at;
      rest = rest;
      tells = subst (λ step. TellsStep d r.shape (log_of w.run) line step fault rest) found
          (subst (λ s. TellsStep d s (log_of w.run) line c.step_at-step.result.now fault rest) c.requires.shape c.in_ok-rest.ensures.told);
      told = simp (c.in_ok-told.ensures.whole, c.put_text-2.ensures, c.put_text.ensures, c.new-out.ensures, c.in_ok-first.ensures.told, c.shape.ensures) refl;
    }

use Rattle.std.proofs.Common.{refl}
use Rattle.dsr_names.specs.declared.actor.Actor.TheVariants.{Client}
use Rattle.dsr_play.specs.declared.event.Event.TheVariants.{Tell}
use Rattle.dsr_run.specs.Step.{log_of}
use Rattle.dsr_world.specs.Event.{MayBeDone}
use Rattle.dsr_lines.proofs.JudgedLemmas.{tell_step}
use Rattle.dsr_lines.proofs.WantedLemmas.{where_none}
use Rattle.dsr_lines.proofs.judged.judge_tell.Goals as goal

pub returns : goal.returns
returns c =
    let w = c.args.stage.now in
    let from = c.args.from in
    let to = c.args.to in
    let may = where_none c.why_refused.result (MayBeDone w.shape (log_of w.run) (Tell (Client from) (Client to))) c.in_default.is c.why_refused.ensures.none in
    c.judged_by.ensures w.shape (log_of w.run) (Client from) (Client to) may (tell_step w.shape (log_of w.run) from to c.in-Ok.front c.in-Ok.ensures.same) refl (λ client twice. twice)

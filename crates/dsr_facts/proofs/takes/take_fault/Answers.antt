use Rattle.std.proofs.Common.{◌≡◌, ◌∙◌, None, Some, ap, subst}
use Rattle.dsr_names.specs.Shape.{IsAllowed}
use Rattle.dsr_play.specs.declared.event.Event.TheVariants.{Take}
use Rattle.dsr_run.specs.Step.{log_of}
use Rattle.dsr_world.specs.Event.{refusal_of}
use Rattle.dsr_facts.proofs.TakeLemmas.{take_may}
use Rattle.dsr_facts.proofs.UndueLemmas.{where_none}
use Rattle.dsr_facts.proofs.takes.take_fault.Goals as goal

pub returns-then-same-clause-none : goal.returns-then-same-clause-none
returns-then-same-clause-none c =
    let w = c.args.stage.now in
    let at = c.args.at.now in
    let from = c.args.from.now in
    let none = where_none c.take_cause.result (refusal_of w.shape (log_of w.run) (Take at from) ≡ None) c.in_default.is c.take_cause.ensures.none in
    let allowed = subst IsAllowed c.shape.ensures c.n-n.ensures.allowed in
    let same = c.same.ensures.0 c.if-same.true in
    take_may w.shape w.run allowed c.steps_are_a_run.ensures at from c.args.found.now none (c.in_ok-held.ensures.same ∙ ap Some same)

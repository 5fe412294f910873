use Rattle.std.proofs.Common.{◌≡◌, sym, ◌∙◌, subst}
use Rattle.std.specs.Prelude.{OnErr}
use Rattle.std.specs.declared.result.Result.TheVariants.{Ok}
use Rattle.std.proofs.lemmas.Result.{IfOk-from_err}
use Rattle.dsr_run.specs.Step.{log_of}
use Rattle.dsr_world.specs.Event.{MayBeDone}
use Rattle.dsr_notes.specs.Noting.{Adds}
use Rattle.dsr_notes.specs.Support.Rest.{CanRest, rest_notes}
use Rattle.dsr_notes.proofs.DoneLemmas.{came_true, may_be_done, passed_on}
use Rattle.dsr_notes.proofs.done.step_noted.Goals as goal
use Rattle.dsr_notes.proofs.done.step_noted.Goals.{In_ok-reply}

may : (c : In_ok-reply) → MayBeDone c.args.stage.now.shape (log_of c.args.stage.now.run) c.args.event.now
may c =
    let w = c.args.stage.now in
    may_be_done w.shape (log_of w.run) c.args.event.now (Ok c.in_ok-reply.reply) c.in_ok-reply.ensures.refused c.in_ok-reply.ensures.forged.1

pub note_rest-requires : goal.note_rest-requires
note_rest-requires c =
    let w = c.args.stage.now in
    let later = c.step.new.self in
    let before = c.note_before-rest.new.notes in
    subst (λ s. CanRest s (log_of later.run) c.note_before-rest.result) (sym c.in_ok-reply.ensures.shape)
    (came_true w.shape later.run w.run c.args.event.now before before c.note_before-rest.result c.in_ok-reply.reply c.note_before-rest.ensures
    (may (goal.at.note_rest-requires c).In_ok-reply).0 c.in_ok-reply.ensures.done).0

pub returns-clause-may : goal.returns-clause-may
returns-clause-may c = may (goal.at.returns-clause-may c).In_ok-reply

pub returns-clause-noted : goal.returns-clause-noted
returns-clause-noted c =
    let w = c.args.stage.now in
    let later = c.step.new.self in
    let before = c.note_before-rest.new.notes in
    let after = c.note_rest.new.notes in
    let rest = c.note_before-rest.result in
    let reply = c.in_ok-reply.reply in
    (came_true w.shape later.run w.run c.args.event.now before after rest reply c.note_before-rest.ensures
    (may (goal.at.returns-clause-noted c).In_ok-reply).0 c.in_ok-reply.ensures.done).1
    (subst (λ s. Adds before after (rest_notes s (log_of later.run) reply rest)) c.in_ok-reply.ensures.shape c.note_rest.ensures)
    (sym c.is_broken.ensures ∙ c.if-is_broken.false)

pub returns-in_err-reply-clause-done : goal.returns-in_err-reply-clause-done
returns-in_err-reply-clause-done c = IfOk-from_err c.from_residual.result _ c.from_residual.ensures.0

pub returns-in_err-reply-clause-may : goal.returns-in_err-reply-clause-may
returns-in_err-reply-clause-may c = IfOk-from_err c.from_residual.result _ c.from_residual.ensures.0

pub returns-in_err-reply-clause-noted : goal.returns-in_err-reply-clause-noted
returns-in_err-reply-clause-noted c = IfOk-from_err c.from_residual.result _ c.from_residual.ensures.0

pub returns-in_err-reply-clause-refused : goal.returns-in_err-reply-clause-refused
returns-in_err-reply-clause-refused c refusal fed is =
    let was = c.in_err-reply.was ∙ sym (passed_on c.from_residual.result c.in_err-reply.field-0.0 c.from_residual.ensures.1) ∙ is in
    (c.step.ensures.last refusal was, subst (λ result. OnErr result (c.step.new.self ≡ c.args.stage.now)) was c.step.ensures.unchanged)

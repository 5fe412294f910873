use Rattle.std.proofs.Common.{◌≡◌, ◌∷◌, sym, subst}
use Rattle.std.specs.Bool.{OnTrue}
use Rattle.std.specs.Prelude.{IfSome}
use Rattle.dsr_envelope.specs.declared.entry.Entry.TheVariants.{Post}
use Rattle.dsr_run.specs.Run.{IsNextStep}
use Rattle.dsr_run.specs.Step.{log_of}
use Rattle.dsr_check.specs.Support.Audit.{StandsFor, ForgesNone}
use Rattle.dsr_check.specs.declared.audit.Audit.{Audit}
use Rattle.dsr_check.proofs.Auditing.{where_false, where_none, where_some}
use Rattle.dsr_check.proofs.audit.Audit.post.Goals as goal

pub returns-in_default-clause-not : goal.returns-in_default-clause-not
returns-in_default-clause-not c run are =
    let from = c.args.from.now in
    let to = c.args.to.now in
    let x = c.args.draft.now in
    let b = c.post_to_replica.new.self in
    let same : b ≡ c.args.self.now = where_false c.in_ok-made.made (b ≡ c.args.self.now) c.if-made.false c.in_ok-made.ensures.stays in
    let none = where_none c.in_ok-envelope.field-0 (¬ IsNextStep b.shape (log_of run) (from, Post to x)) c.in_default.is
    (c.in_ok-envelope.ensures.forged run to (subst (λ z. StandsFor z run) (sym same) are)) in
    subst (λ (z : Audit). ¬ IsNextStep z.shape (log_of run) (from, Post to x)) same none

pub put-requires-clause-unforged : goal.put-requires-clause-unforged
put-requires-clause-unforged c run are =
    let x = c.args.draft.now in
    let made = c.in-Some.envelope in
    let b = c.post_to_replica.new.self in
    let same : made ≡ x = subst (λ o. IfSome o (λ e. e ≡ x)) c.in-Some.is c.in_ok-envelope.ensures.same in
    let forges = where_some c.in_ok-envelope.field-0 made (ForgesNone b.shape (log_of run) c.args.from.now x) c.in-Some.is (c.in_ok-envelope.ensures.unforged run are) in
    subst (ForgesNone b.shape (log_of run) c.args.from.now) (sym same) forges

pub returns-clause-next : goal.returns-clause-next
returns-clause-next c run are =
    let x = c.args.draft.now in
    let b = c.post_to_replica.new.self in
    let unchanged : b ≡ c.args.self.now = where_false c.in_ok-made.made (b ≡ c.args.self.now) c.if-made.false c.in_ok-made.ensures.stays in
    let same : c.in-Some.envelope ≡ x = subst (λ o. IfSome o (λ e. e ≡ x)) c.in-Some.is c.in_ok-envelope.ensures.same in
    subst (λ e. OnTrue c.in_ok-next.next (StandsFor c.put.new.self ((c.args.from.now, Post c.args.to.now e) ∷ run))) same
    (c.in_ok-next.ensures.next run (subst (λ z. StandsFor z run) (sym unchanged) are))

use Rattle.std.proofs.Common.{◌≡◌, true, false, sym, subst}
use Rattle.std.specs.Prelude.{IfSome, IfNone}
use Rattle.std.specs.Option.{is_none}
use Rattle.dsr_names.specs.declared.actor.Actor.TheVariants.{Replica, Client}
use Rattle.dsr_node.specs.Conduct.{post_of}
use Rattle.dsr_run.specs.Step.{log_of}
use Rattle.dsr_facts.proofs.CauseLemmas.{undue_none}
use Rattle.dsr_facts.proofs.cause.undue_post.Goals as goal

pub returns-in-Replica-Replica-clause-refused : goal.returns-in-Replica-Replica-clause-refused
returns-in-Replica-Replica-clause-refused c =
    let shape = c.args.stage.now.shape in
    let run = c.args.stage.now.run in
    let pick = c.args.pick.now in
    let p = c.in-Replica-Replica.poster in
    let q = c.in-Replica-Replica.taker in
    let o = c.undue_at.result in
    let log = log_of run (Replica p) in
    subst (λ a. IfSome o (λ why. is_none (post_of shape (log_of run a) a c.args.to.now pick) ≡ true)) (sym c.in-Replica-Replica.is-0)
    (subst (λ b. IfSome o (λ why. is_none (post_of shape log (Replica p) b pick) ≡ true)) (sym c.in-Replica-Replica.is-1)
    (undue_none shape log p q pick o c.undue_at.ensures.some))

pub returns-in-Replica-Client-clause-none : goal.returns-in-Replica-Client-clause-none
returns-in-Replica-Client-clause-none c =
    let shape = c.args.stage.now.shape in
    let run = c.args.stage.now.run in
    let pick = c.args.pick.now in
    let p = c.in-Replica-Client.poster in
    let d = c.in-Replica-Client.client in
    let o = c.undue_reply.result in
    let is = c.loyal_of.ensures in
    let log = log_of run (Replica p) in
    subst (λ a. IfNone o (is_none (post_of shape (log_of run a) a c.args.to.now pick) ≡ false)) (sym c.in-Replica-Client.is-0)
    (subst (λ b. IfNone o (is_none (post_of shape log (Replica p) b pick) ≡ false)) (sym c.in-Replica-Client.is-1)
    (subst (λ s. IfNone o (is_none (post_of s log (Replica p) (Client d) pick) ≡ false)) is.shape_is (c.undue_reply.ensures.none log p is.stands)))

pub returns-in-Client-Replica-clause-none : goal.returns-in-Client-Replica-clause-none
returns-in-Client-Replica-clause-none c =
    let shape = c.args.stage.now.shape in
    let run = c.args.stage.now.run in
    let pick = c.args.pick.now in
    let d = c.in-Client-Replica.client in
    let q = c.in-Client-Replica.field-0-1 in
    let o = c.undue_ask.result in
    let is = c.client_of.ensures in
    let log = log_of run (Client d) in
    subst (λ a. IfNone o (is_none (post_of shape (log_of run a) a c.args.to.now pick) ≡ false)) (sym c.in-Client-Replica.is-0)
    (subst (λ b. IfNone o (is_none (post_of shape log (Client d) b pick) ≡ false)) (sym c.in-Client-Replica.is-1)
    (subst (λ s. IfNone o (is_none (post_of s log (Client d) (Replica q) pick) ≡ false)) is.shape
    (subst (λ m. IfNone o (is_none (post_of c.client_of.result.now.shape log (Client m) (Replica q) pick) ≡ false)) is.me
    (c.undue_ask.ensures.none log q is.stands))))

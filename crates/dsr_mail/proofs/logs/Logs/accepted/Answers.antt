use Rattle.std.proofs.Common.{◌≡◌, ℕ, ◌<◌, ◌*◌, List, [], reverse, subst}
use Rattle.dsr_base.specs.Member.{In}
use Rattle.dsr_names.specs.Shape.{Shape, HasFewTraitors}
use Rattle.dsr_names.specs.declared.actor.Actor.TheVariants.{Client}
use Rattle.dsr_ledger.specs.declared.reply.Reply.{Reply as AReply}
use Rattle.dsr_run.specs.History.{accepted_by, history}
use Rattle.dsr_run.specs.Right.{IsRightReply, TookAllReplies, HasReplyTo}
use Rattle.dsr_run.specs.Run.{AreLogs}
use Rattle.dsr_run.specs.Step.{Logs as LogsOfAll}
use Rattle.dsr_run.proofs.Lemmas.{run_logs, lent_right, lent_answered}
use Rattle.dsr_mail.specs.Logs.{Logs, logs_of}
use Rattle.dsr_mail.proofs.logs.Logs.accepted.Goals.{After-m-m}
use Rattle.dsr_mail.proofs.logs.Logs.accepted.Goals as goal

-- the replies that a client accepted, in their order, are right, and answer it
record AreReplies (shape : Shape) (logs : LogsOfAll) (c : ℕ) (replies : List AReply) : Type 0 where
  same : replies ≡ reverse (accepted_by shape logs c)
  right : (reply : AReply) → In reply replies → IsRightReply shape (history shape logs) (logs (Client c)) reply
  answered : (number : ℕ) → TookAllReplies shape (logs (Client c)) number → HasReplyTo number replies

accepted_in : (shape : Shape) → HasFewTraitors shape → 2 * shape.f < shape.n → (logs : LogsOfAll) → AreLogs shape logs → (c : ℕ) (replies : List AReply)
    → replies ≡ reverse (accepted_by shape logs c) → AreReplies shape logs c replies
accepted_in shape few most logs are c replies same =
    let e = rw (← run_logs shape logs are) at same in
    rw (← run_logs shape logs are)
    (record { same = e; right = lent_right shape few are.run are.is c replies e; answered = lent_answered shape few are.run are.is c replies e most })

accepted_here : (c : After-m-m) (replies : List AReply) → replies ≡ reverse (accepted_by c.args.self.now.shape (logs_of c.args.self.now) c.args.client)
    → AreReplies c.args.self.now.shape (logs_of c.args.self.now) c.args.client replies
accepted_here c replies =
    let allowed = c.m-m.ensures.allowed in
    subst (λ (l : Logs). replies ≡ reverse (accepted_by l.shape (logs_of l) c.args.client) → AreReplies l.shape (logs_of l) c.args.client replies) c.self.view_is
    (accepted_in c.self.inside.shape allowed.few_traitors allowed.most_loyal _ c.self.invariant.are c.args.client replies)

pub returns-in-Some : goal.returns-in-Some
returns-in-Some c =
    assumption (accepted_here (goal.at.returns-in-Some c).After-m-m c.accepted.result.now (c.accepted.ensures _ _ _ c.in-Some.ensures.plays))

pub returns-in-None : goal.returns-in-None
returns-in-None c = assumption (accepted_here (goal.at.returns-in-None c).After-m-m [] (rw (c.in-None.ensures.none (Client c.args.client))))

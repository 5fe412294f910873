use Rattle.std.proofs.Common.{◌≡◌, ℕ, suc, ◌⊎◌, inl, inr, true, List, [], reverse, ap, sym, subst, add-one, rules, arith}
use Rattle.std.proofs.lemmas.Bool.{cases_Bool}
use Rattle.std.proofs.lemmas.List.{reverse-reverse}
use Rattle.dsr_names.specs.Shape.{Shape, HasFewTraitors, is_traitor}
use Rattle.dsr_request.specs.Request.{Request}
use Rattle.dsr_run.specs.History.{decided_at, history}
use Rattle.dsr_run.specs.Step.{Logs as LogsOfAll}
use Rattle.dsr_run.proofs.Lemmas.{IsBest, best_past, best_kept, best_more, history_legal, logs_linearized}
use Rattle.dsr_mail.specs.Logs.{Logs, logs_of}
use Rattle.dsr_mail.proofs.logs.Logs.history.Goals.{in-Some+then-decided-closed, in-Some+else-decided-closed, in_default}
use Rattle.dsr_mail.proofs.logs.Logs.history.Goals as goal

-- a traitor is passed over, and so is who has decided nothing
best_without : (shape : Shape) (logs : LogsOfAll) (k closed : ℕ) (requests : List Request) → IsBest shape logs k closed requests
    → (is_traitor shape k ≡ true) ⊎ (decided_at shape logs k ≡ []) → IsBest shape logs (suc k) closed requests
best_without shape logs k closed requests best (inl traitor) = best_past shape logs k closed requests best traitor
best_without shape logs k closed requests best (inr none) = elim (cases_Bool (is_traitor shape k)) [
  | inl traitor ↦ best_past shape logs k closed requests best traitor
  | inr loyal ↦ best_kept shape logs k closed requests best [] loyal (ap reverse (sym none)) (omega arith)
]

pub returns-clause-legal : goal.returns-clause-legal
returns-clause-legal c = history_legal c.args.self.now.shape (logs_of c.args.self.now)

pub loop-number-preserved : goal.loop-number-preserved
loop-number-preserved c =
    let best = c.loop-number.invariant.0 in (
      rw add-one (elim c.match-loyal.branch [
        | in-Some+then-decided-closed w ↦
            let is = w.in-Some.ensures.loyal in
            let values = rw is.shape_is at (w.decided-decided.ensures.stands _ is.stands) in
            let own = rw is.shape_is at (w.history-history.ensures.stands _ is.stands) in
            rw (w.closed-is, w.history-is) (best_more _ _ _ _ _ best w.decided-decided.result.now _ is.honest values own w.if-decided-closed.true)
        | in-Some+else-decided-closed w ↦
            let is = w.in-Some.ensures.loyal in
            let values = rw is.shape_is at (w.decided-decided.ensures.stands _ is.stands) in
            rw (w.closed-is, w.history-is) (best_kept _ _ _ _ _ best w.decided-decided.result.now is.honest values w.if-decided-closed.false)
        | in_default w ↦ rw (w.closed-is, w.history-is) (best_without _ _ _ _ _ best w.in_default.ensures.none)
      ]),
      c.loop-number.invariant.1,
    )

pub returns-clause-linearizes : goal.returns-clause-linearizes
returns-clause-linearizes c =
    let logs = c.args.self.now in
    let few = subst (λ (l : Logs). HasFewTraitors l.shape) c.self.view_is c.n-number-end.ensures.allowed.few_traitors in
    let same : c.loop-number.history.now ≡ reverse (history logs.shape (logs_of logs)) = search rules in
    rw (same, reverse-reverse) (logs_linearized logs.shape few (logs_of logs))

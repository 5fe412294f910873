use Rattle.std.proofs.Common.{length, reverse, ap, ◌∙◌}
use Rattle.dsr_names.specs.declared.actor.Actor.TheVariants.{Replica}
use Rattle.dsr_history.specs.History.{acted}
use Rattle.dsr_replica.specs.Decided.{decided_requests, decided_values}
use Rattle.dsr_run.specs.Step.{log_of}
use Rattle.dsr_run.proofs.Lemmas.{best_past, best_kept, best_more, as_best}
use Rattle.dsr_check.proofs.audit.Audit.history.Goals.{in-Some+then-decided-closed, in-Some+else-decided-closed, in_default}
use Rattle.dsr_check.proofs.audit.Audit.history.Goals as goal

pub loop-number-preserved : goal.loop-number-preserved
loop-number-preserved c =
    let a = c.args.self.now in
    let p = c.loop-number.number in (
      λ run are. elim c.match-replica.branch [
        | in-Some+then-decided-closed w ↦
            let best = c.loop-number.invariant.0 run are in
            let is = w.in-Some.ensures.loyal run are in
            let log = log_of run (Replica p) in
            let values = w.decided-decided.ensures.stands log is.stands ∙ ap (λ s. reverse (decided_values s log)) is.shape_is in
            let own = w.history-history.ensures.stands log is.stands ∙ ap (λ s. reverse (acted (decided_requests s log))) is.shape_is in
            as_best a.shape (log_of run) p (length w.decided-decided.result.now) c.match-replica.closed w.history-history.result.now c.match-replica.history.now
            (best_more a.shape (log_of run) p c.loop-number.closed c.loop-number.history.now best w.decided-decided.result.now w.history-history.result.now is.honest
            values own w.if-decided-closed.true) w.closed-is (ap (λ r. r.now) w.history-is)
        | in-Some+else-decided-closed w ↦
            let best = c.loop-number.invariant.0 run are in
            let is = w.in-Some.ensures.loyal run are in
            let log = log_of run (Replica p) in
            let values = w.decided-decided.ensures.stands log is.stands ∙ ap (λ s. reverse (decided_values s log)) is.shape_is in
            as_best a.shape (log_of run) p c.loop-number.closed c.match-replica.closed c.loop-number.history.now c.match-replica.history.now
            (best_kept a.shape (log_of run) p c.loop-number.closed c.loop-number.history.now best w.decided-decided.result.now is.honest values
            w.if-decided-closed.false) w.closed-is (ap (λ r. r.now) w.history-is)
        | in_default w ↦
            let best = c.loop-number.invariant.0 run are in
            let traitor = w.in_default.ensures.traitor run are in
            as_best a.shape (log_of run) p c.loop-number.closed c.match-replica.closed c.loop-number.history.now c.match-replica.history.now
            (best_past a.shape (log_of run) p c.loop-number.closed c.loop-number.history.now best traitor) w.closed-is (ap (λ r. r.now) w.history-is)
      ],
      c.loop-number.invariant.1,
    )

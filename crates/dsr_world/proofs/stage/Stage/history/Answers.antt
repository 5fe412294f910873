use Rattle.std.proofs.Common.{◌≡◌, ◌<◌, add-one, reverse, refl, arith, rules}
use Rattle.std.proofs.lemmas.List.{reverse-reverse}
use Rattle.dsr_names.specs.declared.actor.Actor.TheVariants.{Replica}
use Rattle.dsr_run.specs.History.{history}
use Rattle.dsr_run.specs.Step.{log_of}
use Rattle.dsr_run.proofs.Lemmas.{best_past, best_kept, best_more, history_grows, history_legal, linearized, logs_grew}
use Rattle.dsr_world.proofs.StageLemmas.{node_at, run_of}
use Rattle.dsr_world.proofs.stage.Stage.history.Goals as goal

pub loop-number-preserved : goal.loop-number-preserved
loop-number-preserved c =
    let w = c.args.self.now in
    let l = c.loop-number in
    let p = l.number in
    let best = l.invariant.0 in
    let inside : p < w.shape.n = omega (arith, c.loop-number-test.true, l.invariant.1) in
    let plays = node_at c.self.inside c.self.view_is c.self.invariant (Replica p) inside refl c.index.ensures in (
      elim c.match-replica.branch [
        | goal.in-Some+then-decided-closed b ↦
            let is = b.in-Some.ensures.loyal w.shape p (log_of w.run (Replica p)) plays in
            let values = rw is.shape_is at (b.decided-decided.ensures.stands _ is.stands) in
            let own = rw is.shape_is at (b.history-history.ensures.stands _ is.stands) in
            rw (add-one, b.closed-is, b.history-is) (best_more _ _ _ _ _ best _ _ is.honest values own b.if-decided-closed.true)
        | goal.in-Some+else-decided-closed b ↦
            let is = b.in-Some.ensures.loyal w.shape p (log_of w.run (Replica p)) plays in
            let values = rw is.shape_is at (b.decided-decided.ensures.stands _ is.stands) in
            rw (add-one, b.closed-is, b.history-is) (best_kept _ _ _ _ _ best _ is.honest values b.if-decided-closed.false)
        | goal.in_default b ↦ rw (add-one, b.closed-is, b.history-is)
            (best_past _ _ _ _ _ best (b.in_default.ensures.traitor _ _ _ plays))
      ],
      l.invariant.1,
    )

pub returns : goal.returns
returns c =
    let w = c.args.self.now in
    let r = run_of c.self.inside c.self.view_is c.self.invariant c.n-number-end.ensures.allowed in
    let same : c.loop-number.history.now ≡ reverse (history w.shape (log_of w.run)) = search rules in
    record {
      same = same;
      linearizes = rw (same, reverse-reverse) (linearized _ r.1.few_traitors _ r.0);
      legal = history_legal w.shape (log_of w.run);
      grew = λ earlier grown. history_grows _ r.1.few_traitors _ r.0 _ (logs_grew _ _ grown);
    }

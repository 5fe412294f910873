use Rattle.std.proofs.Common.{◌≤◌, rules, length, ◌∙◌, arith}
use Rattle.dsr_run.proofs.Lemmas.{all_agree, all_right, linearized}
use Rattle.dsr_world.proofs.Ending.{step_outcome, ended_next, ended_few, ended_last, ended_all, ended_grew}
use Rattle.dsr_world.proofs.Keeping.{still_of}
use Rattle.dsr_world.proofs.StageLemmas.{run_of}
use Rattle.dsr_world.proofs.stage.Stage.run_in.Goals as goal

pub add-requires-clause-few : goal.add-requires-clause-few
add-requires-clause-few c =
    let w = c.args.self.now in
    let l = c.loop-event in
    let few : length c.args.events.now ≤ 18446744073709551615 = search rules in
    let count = ended_few w.shape w.run c.args.events.now l.self.run l.event-index l.end l.auto.event-index-end l.invariant.0 in
    omega (arith, count, c.loop-event-test.true, few)

pub loop-event-preserved : goal.loop-event-preserved
loop-event-preserved c =
    let l = c.loop-event in
    let step = c.step_in in
    let event = c.event-item.result in
    let outcome = c.err-outcome.result in
    let is = step_outcome l.self.shape step.new.self.run l.self.run event step.result outcome
    (record {
      done = step.ensures.done;
      refused = step.ensures.refused;
      forged = step.ensures.forged;
      why = step.ensures.last;
      unchanged = search rules;
    }) c.err-outcome.ensures.value in (
      ended_next _ _ c.args.events.now _ _ l.event-index _ _ _ _ c.loop-event-test.true c.event-item.is l.invariant.0 (rw l.invariant.1 at is) c.add.ensures.counts,
      step.ensures.shape ∙ l.invariant.1,
      c.add.ensures.starved,
      step.ensures.kept ∙ l.invariant.3,
      λ are. still_of step.result l.entries step.new.entries l.self step.new.self step.ensures.kept step.ensures.added step.ensures.left
          step.ensures.unchanged (l.invariant.4 are),
    )

pub returns : goal.returns
returns c =
    let w = c.args.self.now in
    let l = c.loop-event in
    let now = l.self in
    let ended = ended_last w.shape w.run c.args.events.now now.run l.event-index l.end l.auto.event-index-end c.loop-event-test.false l.invariant.0 in
    let grew = ended_grew _ _ _ _ _ ended in
    let r = run_of c.self.inside c.self.view_is c.self.invariant c.n-n.ensures.allowed in
    record {
      ended = ended;
      all = ended_all _ _ _ _ _ ended;
      grew = grew.grew;
      done = grew.size;
      shape = l.invariant.1;
      run = r.0;
      agreement = all_agree _ _ r.1.few_traitors r.0;
      right = all_right _ r.1.few_traitors _ r.0;
      linearizable = (_, linearized _ r.1.few_traitors _ r.0);
      kept = l.invariant.3;
      added = l.invariant.4;
    }

use Rattle.std.proofs.Common.{◌≡◌, reverse, rules}
use Rattle.dsr_run.specs.History.{accepted_by}
use Rattle.dsr_run.specs.Step.{log_of}
use Rattle.dsr_run.proofs.Lemmas.{lent_right, lent_answered}
use Rattle.dsr_world.proofs.StageLemmas.{IsNodeOf, client_found, run_of}
use Rattle.dsr_world.proofs.stage.Stage.accepted.Goals.{After-index}
use Rattle.dsr_world.proofs.stage.Stage.accepted.Goals as goal

found : (c : After-index) → IsNodeOf c.args.self.now c.args.client c.index.result.now
found c = client_found c.self.inside c.self.view_is c.self.invariant _ c.if-number-m.false c.number.ensures.same c.m.ensures.same c.place.ensures c.index.ensures

pub accepted-requires : goal.accepted-requires
accepted-requires c = (found (goal.at.accepted-requires c).After-index).0

pub returns : goal.returns
returns c =
    let w = c.args.self.now in
    let same : c.accepted.result.now ≡ reverse (accepted_by w.shape (log_of w.run) c.args.client) =
    c.accepted.ensures _ _ _ (found (goal.at.returns c).After-index).1 in
    let r = run_of c.self.inside c.self.view_is c.self.invariant c.m.ensures.allowed in
    record {
      same = same;
      when = search rules;
      refusal = search rules;
      right = lent_right _ r.1.few_traitors _ r.0 _ _ same;
      answered = lent_answered _ r.1.few_traitors _ r.0 _ _ same r.1.most_loyal;
    }

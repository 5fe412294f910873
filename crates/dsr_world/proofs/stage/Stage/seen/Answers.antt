use Rattle.std.proofs.Common.{◌≡◌, rules}
use Rattle.dsr_run.specs.History.{seen_by}
use Rattle.dsr_run.specs.Step.{log_of}
use Rattle.dsr_run.proofs.Lemmas.{seen_within}
use Rattle.dsr_world.proofs.StageLemmas.{IsNodeOf, client_found, run_of}
use Rattle.dsr_world.proofs.stage.Stage.seen.Goals.{After-index}
use Rattle.dsr_world.proofs.stage.Stage.seen.Goals as goal

found : (c : After-index) → IsNodeOf c.args.self.now c.args.client c.index.result.now
found c = client_found c.self.inside c.self.view_is c.self.invariant _ c.if-number-m.false c.number.ensures.same c.m.ensures.same c.place.ensures c.index.ensures

pub seen-requires : goal.seen-requires
seen-requires c = (found (goal.at.seen-requires c).After-index).0

pub returns : goal.returns
returns c =
    let w = c.args.self.now in
    let same : c.seen.result ≡ seen_by w.shape (log_of w.run) c.args.client = c.seen.ensures _ _ _ (found (goal.at.returns c).After-index).1 in
    let r = run_of c.self.inside c.self.view_is c.self.invariant c.m.ensures.allowed in
    record {
      same = same;
      within = rw same (seen_within _ r.1.few_traitors _ r.0 c.args.client);
      when = search rules;
      refusal = search rules;
    }

use Rattle.std.proofs.Common.{◌≡◌, ◌++◌, subst}
use Rattle.dsr_run.specs.Step.{log_of}
use Rattle.dsr_explain.specs.Waiting.{standing_part}
use Rattle.dsr_explain.proofs.WaitingLemmas.{one_more}
use Rattle.dsr_explain.proofs.waiting.write_standings.Goals as goal

pub loop-place-preserved : goal.loop-place-preserved
loop-place-preserved c =
    let stage = c.args.stage.now in
    let mid = c.loop-place.out in
    let new = c.write_standing.new.out in
    one_more stage.shape (log_of stage.run) c.args.client c.args.number c.loop-place.place c.args.out.now mid new c.loop-place.invariant
    (subst (λ p. new ≡ mid ++ standing_part stage.shape (log_of stage.run) c.args.client c.args.number p) c.of.ensures
    c.write_standing.ensures)

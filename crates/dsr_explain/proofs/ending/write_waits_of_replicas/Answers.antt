use Rattle.std.proofs.Common.{◌≡◌, ◌++◌, ℕ, List, subst}
use Rattle.dsr_run.specs.Step.{log_of}
use Rattle.dsr_explain.specs.Waits.{IsWaitOfReplica}
use Rattle.dsr_explain.proofs.ToldLemmas.{below_more}
use Rattle.dsr_explain.proofs.ending.write_waits_of_replicas.Goals as goal

pub loop-number-preserved : goal.loop-number-preserved
loop-number-preserved c =
    let stage = c.args.stage.now in
    below_more (IsWaitOfReplica c.args.wanted.now stage.shape (log_of stage.run)) c.loop-number.number
    c.args.out.now c.loop-number.out c.write_wait_of_replica.new.out
    c.loop-number.invariant
    (subst (λ p. (text : List ℕ) × IsWaitOfReplica c.args.wanted.now stage.shape (log_of stage.run) p text
    × (c.write_wait_of_replica.new.out ≡ c.loop-number.out ++ text)) c.of.ensures c.write_wait_of_replica.ensures)

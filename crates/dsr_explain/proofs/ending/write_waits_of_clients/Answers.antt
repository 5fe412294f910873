use Rattle.std.proofs.Common.{◌≡◌, ◌++◌, ℕ, List, subst}
use Rattle.dsr_run.specs.Step.{log_of}
use Rattle.dsr_explain.specs.Waits.{IsWaitOfClient}
use Rattle.dsr_explain.proofs.ToldLemmas.{below_more}
use Rattle.dsr_explain.proofs.ending.write_waits_of_clients.Goals as goal

pub loop-number-preserved : goal.loop-number-preserved
loop-number-preserved c =
    let stage = c.args.stage.now in
    below_more (IsWaitOfClient c.args.wanted.now stage.shape (log_of stage.run)) c.loop-number.number
    c.args.out.now c.loop-number.out c.write_wait_of_client.new.out
    c.loop-number.invariant
    (subst (λ p. (text : List ℕ) × IsWaitOfClient c.args.wanted.now stage.shape (log_of stage.run) p text
    × (c.write_wait_of_client.new.out ≡ c.loop-number.out ++ text)) c.of.ensures c.write_wait_of_client.ensures)

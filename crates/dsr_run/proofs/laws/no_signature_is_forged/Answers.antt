use Rattle.std.proofs.Common.{◌∷◌}
use Rattle.dsr_run.proofs.Forging.{step_made, taken_made, posted_made}
use Rattle.dsr_run.proofs.Logs.{run_before}
use Rattle.dsr_run.proofs.laws.no_signature_is_forged.Goals as goal

pub returns-clause-steps : goal.returns-clause-steps
returns-clause-steps c shape run older step is grown s carried =
    step_made shape step older (run_before shape run (step ∷ older) is grown) s carried

pub returns-clause-taken : goal.returns-clause-taken
returns-clause-taken c shape run is a s taken = taken_made shape run is a s taken

pub returns-clause-posted : goal.returns-clause-posted
returns-clause-posted c shape run is a s posted = posted_made shape run is a s posted

-- The laws of agreement together.
use Rattle.std.proofs.Common.{List, ◌∷◌}
use Rattle.dsr_names.specs.Shape.{Shape, HasFewTraitors}
use Rattle.dsr_names.specs.declared.actor.Actor.TheVariants.{Replica}
use Rattle.dsr_rotation.proofs.Lemmas.{closed_below}
use Rattle.dsr_envelope.specs.Log.{rounds}
use Rattle.dsr_run.specs.Agreement.{HasAgreement}
use Rattle.dsr_run.specs.Run.{IsRun}
use Rattle.dsr_run.specs.Step.{Step, log_of}
use Rattle.dsr_run.proofs.Agreeing.{same_decided, one_extends}
use Rattle.dsr_run.proofs.Forging.{step_made, taken_made, posted_made}
use Rattle.dsr_run.proofs.Links.{two_links, one_link}
use Rattle.dsr_run.proofs.Logs.{run_before}
use Rattle.dsr_run.proofs.Proposing.{as_proposed, decided_was_proposed}

-- every run with few traitors has agreement
pub all_agree : (shape : Shape) (run : List Step) → HasFewTraitors shape → IsRun shape run → HasAgreement shape run
all_agree shape run few is = record {
  agree = λ p q loyal loyal_too. record {
    lists = one_extends shape few run is p q loyal loyal_too;
    slots = λ slot closed closed_too.
        same_decided shape run is slot few p q loyal loyal_too (closed_below shape slot (rounds shape (log_of run (Replica p))) closed)
        (closed_below shape slot (rounds shape (log_of run (Replica q))) closed_too);
  };
  valid = λ slot p sends loyal closed. record {
    decided = λ value proposed.
        as_proposed shape run is slot sends p loyal (closed_below shape slot (rounds shape (log_of run (Replica p))) closed) value proposed;
    proposed = decided_was_proposed shape run is slot sends p loyal (closed_below shape slot (rounds shape (log_of run (Replica p))) closed);
  };
  no_forgery = record {
    steps = λ older step grown s carried. step_made shape step older (run_before shape run (step ∷ older) is grown) s carried;
    taken = λ a s taken. taken_made shape run is a s taken;
    posted = λ a s posted. posted_made shape run is a s posted;
  };
  two_links = λ slot p loyal. two_links shape run is slot p loyal;
  one_link = λ slot p loyal sends. one_link shape run is slot p loyal sends;
}

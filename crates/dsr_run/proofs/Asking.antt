-- What is outstanding was posted, so it is within the limits.
use Rattle.std.proofs.Common.{◌≡◌, ℕ, List, Some}
use Rattle.dsr_names.specs.Shape.{Shape}
use Rattle.dsr_names.specs.declared.actor.Actor.TheVariants.{Replica, Client}
use Rattle.dsr_chain.specs.declared.signed_request.SignedRequest.{SignedRequest}
use Rattle.dsr_envelope.specs.declared.envelope.Envelope.TheVariants.{Ask}
use Rattle.dsr_envelope.specs.Limits.{IsEnvelope}
use Rattle.dsr_client.specs.State.{outstanding}
use Rattle.dsr_client.proofs.Lemmas.{was_posted}
use Rattle.dsr_run.specs.Run.{IsRun}
use Rattle.dsr_run.specs.Step.{Step, log_of}
use Rattle.dsr_run.proofs.Within.{posted_within}

pub outstanding_within : (shape : Shape) (run : List Step) → IsRun shape run → (c : ℕ) (ask : SignedRequest)
    → outstanding shape (log_of run (Client c)) ≡ Some ask → IsEnvelope (Ask ask)
outstanding_within shape run is c ask e =
    let h = was_posted shape (log_of run (Client c)) ask e in
    posted_within shape run is (Client c) (Replica h.replica) (Ask ask) h.posted

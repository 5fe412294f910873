-- What a box holds is within the limits.
use Rattle.std.proofs.Common.{◌≡◌, List, Some, length}
use Rattle.dsr_base.proofs.MemberLemmas.{In-from_place}
use Rattle.dsr_names.specs.Shape.{Shape}
use Rattle.dsr_names.specs.declared.actor.Actor.{Actor}
use Rattle.dsr_envelope.specs.declared.envelope.Envelope.{Envelope}
use Rattle.dsr_envelope.specs.Limits.{IsEnvelope}
use Rattle.dsr_envelope.specs.Log.{posted_to, taken_from}
use Rattle.dsr_run.specs.Run.{IsRun}
use Rattle.dsr_run.specs.Step.{Step, log_of}
use Rattle.dsr_run.proofs.Lemmas.{posted_entry, posted_within}
use Rattle.dsr_world.specs.Event.{in_box}

pub in_box_within : (shape : Shape) (run : List Step) → IsRun shape run → (from to : Actor) (x : Envelope) → in_box (log_of run) from to ≡ Some x
    → IsEnvelope x
in_box_within shape run is from to x holds =
    posted_within shape run is from to x (posted_entry to (log_of run from) x
    (In-from_place x (posted_to to (log_of run from)) (length (taken_from from (log_of run to))) holds))

use Rattle.dsr_names.specs.declared.actor.Actor.TheVariants.{Replica}
use Rattle.dsr_rotation.proofs.Lemmas.{closed_below}
use Rattle.dsr_envelope.specs.Log.{rounds}
use Rattle.dsr_run.specs.Step.{log_of}
use Rattle.dsr_run.proofs.Proposing.{as_proposed, decided_was_proposed}
use Rattle.dsr_run.proofs.laws.loyal_senders_values_are_decided.Goals as goal

pub returns-clause-decided : goal.returns-clause-decided
returns-clause-decided c shape run is slot sends p loyal closed value proposed =
    as_proposed shape run is slot sends p loyal (closed_below shape slot (rounds shape (log_of run (Replica p))) closed) value proposed

pub returns-clause-proposed : goal.returns-clause-proposed
returns-clause-proposed c shape run is slot sends p loyal closed =
    decided_was_proposed shape run is slot sends p loyal (closed_below shape slot (rounds shape (log_of run (Replica p))) closed)

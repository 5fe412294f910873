use Rattle.dsr_names.specs.declared.actor.Actor.TheVariants.{Replica}
use Rattle.dsr_rotation.proofs.Lemmas.{closed_below}
use Rattle.dsr_envelope.specs.Log.{rounds}
use Rattle.dsr_run.specs.Step.{log_of}
use Rattle.dsr_run.proofs.Agreeing.{same_decided, one_extends}
use Rattle.dsr_run.proofs.laws.loyal_replicas_agree.Goals as goal

pub returns-clause-lists : goal.returns-clause-lists
returns-clause-lists c shape run few is p q loyal loyal_too = one_extends shape few run is p q loyal loyal_too

pub returns-clause-slots : goal.returns-clause-slots
returns-clause-slots c shape run few is p q loyal loyal_too slot closed closed_too =
    same_decided shape run is slot few p q loyal loyal_too (closed_below shape slot (rounds shape (log_of run (Replica p))) closed)
    (closed_below shape slot (rounds shape (log_of run (Replica q))) closed_too)

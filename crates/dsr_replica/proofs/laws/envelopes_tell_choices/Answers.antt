use Rattle.dsr_names.specs.Support.ActorEquality.{actor_eq-Decides}
use Rattle.dsr_chain.specs.Proper.{sender_of}
use Rattle.dsr_envelope.specs.Log.{rounds}
use Rattle.dsr_replica.proofs.Shown.{only_sender_proposes, sender_last, sender_shows, plain_shows, choice_shown}
use Rattle.dsr_replica.proofs.laws.envelopes_tell_choices.Goals as goal

pub returns-clause-choice : goal.returns-clause-choice
returns-clause-choice c shape me log q pick envelope good e = choice_shown shape me log q pick envelope good e

pub returns-clause-clients : goal.returns-clause-clients
returns-clause-clients c shape me log clients envelope e = sender_shows shape me log clients envelope e

pub returns-clause-sender : goal.returns-clause-sender
returns-clause-sender c shape me log clients envelope e =
    (actor_eq-Decides me (sender_of shape (rounds shape log))).0 (only_sender_proposes shape me log clients envelope e)

pub returns-clause-idle : goal.returns-clause-idle
returns-clause-idle c shape me log envelope own e =
    plain_shows shape me log ((actor_eq-Decides me (sender_of shape (rounds shape log))).1 own) envelope e

pub returns-clause-last : goal.returns-clause-last
returns-clause-last c shape me log pick envelope own e =
    sender_last shape me log ((actor_eq-Decides me (sender_of shape (rounds shape log))).1 own) pick envelope e

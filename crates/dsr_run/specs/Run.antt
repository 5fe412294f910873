-- Runs: which steps may follow one another (this project; the premises of Dolev and Strong 1983 are in it: what is sent in a round is
-- received before the round ends, and nobody makes a signature of another).
use Rattle.std.specs.Prelude.{◌≡◌, ◌⊎◌, suc, ◌<◌, ◌^◌, true, false, List, [], ◌∷◌, ◌++◌, length}
use Rattle.dsr_base.specs.Member.{In}
use Rattle.dsr_names.specs.Shape.{Shape, is_traitor, IsActor}
use Rattle.dsr_names.specs.declared.actor.Actor.{Actor}
use Rattle.dsr_names.specs.declared.actor.Actor.TheVariants.{Replica, Client}
use Rattle.dsr_desk.specs.Signature.{Signature}
use Rattle.dsr_envelope.specs.declared.envelope.Envelope.{Envelope}
use Rattle.dsr_envelope.specs.declared.entry.Entry.{Entry}
use Rattle.dsr_envelope.specs.declared.entry.Entry.TheVariants.{Post, Take}
use Rattle.dsr_replica.specs.Conduct.{IsNext}
use Rattle.dsr_envelope.specs.Envelope.{Carries}
use Rattle.dsr_envelope.specs.Limits.{IsEnvelope}
use Rattle.dsr_envelope.specs.Log.{posted_to, taken_from, rounds}
use Rattle.dsr_client.specs.Conduct.{IsNext as IsNextOfClient}
use Rattle.dsr_run.specs.Step.{Step, Logs, log_of}

-- to whom an entry posts, or from whom it takes
abbrev pub other_of : Entry → Actor
other_of (Post to envelope) = to
other_of (Take from envelope) = from

-- the envelope of an entry
abbrev pub envelope_of : Entry → Envelope
envelope_of (Post to envelope) = envelope
envelope_of (Take from envelope) = envelope

-- each actor has a box to each actor, which holds at most one envelope: a post finds it empty, since all that was posted there
-- was taken; and what is taken is what it holds, the one envelope that was posted there and not taken (the premise on rounds)
abbrev pub KeepsBox : Logs → Actor → Entry → Type 0
KeepsBox logs actor (Post to envelope) = posted_to to (logs actor) ≡ taken_from actor (logs to)
KeepsBox logs actor (Take from envelope) = posted_to actor (logs from) ≡ taken_from from (logs actor) ++ envelope ∷ []

-- a traitor of the shape: a replica below n whose bit is set
abbrev pub IsTraitor : Shape → Actor → Type 0
IsTraitor shape (Replica p) = (p < shape.n) × (is_traitor shape p ≡ true)
IsTraitor shape (Client c) = ⊥

-- an envelope that was posted in this log carries the signature
pub record HasPosted (log : List Entry) (s : Signature) : Type 0 where
  pub to : Actor
  pub envelope : Envelope
  pub posted : In (Post to envelope) log
  pub carried : Carries envelope s

-- a signature that can be sent: a traitor made it, since traitors lend each other their keys, or its signer has
-- posted it (Dolev and Strong 1983)
abbrev pub IsMadeOrPosted : Shape → Logs → Signature → Type 0
IsMadeOrPosted shape logs s = IsTraitor shape s.signer ⊎ HasPosted (logs s.signer) s

-- a traitor posts anything in which nothing is forged, and takes anything: each signature in what it posts, on a chain, beside a
-- request of a chain's value, or beside a request that is asked, can be sent
abbrev pub ForgesNothing : Shape → Logs → Entry → Type 0
ForgesNothing shape logs (Post to envelope) = (s : Signature) → Carries envelope s → IsMadeOrPosted shape logs s
ForgesNothing shape logs (Take from envelope) = Unit {0}

-- a loyal replica posts to replicas only in rounds below 2^36
abbrev pub KeepsRounds : Shape → List Entry → Entry → Type 0
KeepsRounds shape log (Post (Replica q) envelope) = rounds shape log < 2 ^ 36
KeepsRounds shape log (Post (Client c) envelope) = Unit {0}
KeepsRounds shape log (Take from envelope) = Unit {0}

-- the protocol of the actor: that of a loyal replica, of a traitor, or of a client
abbrev pub KeepsConduct : Shape → Logs → Actor → Entry → Type 0
KeepsConduct shape logs (Replica p) entry =
    (is_traitor shape p ≡ false → IsNext shape (Replica p) (logs (Replica p)) entry × KeepsRounds shape (logs (Replica p)) entry)
    × (is_traitor shape p ≡ true → ForgesNothing shape logs entry)
KeepsConduct shape logs (Client c) entry = IsNextOfClient shape c (logs (Client c)) entry

-- what is posted is within the limits of envelopes, and is one of fewer than 2^40 posts in its box
abbrev pub KeepsLimits : Logs → Actor → Entry → Type 0
KeepsLimits logs actor (Post to envelope) = IsEnvelope envelope × (suc (length (posted_to to (logs actor))) < 2 ^ 40)
KeepsLimits logs actor (Take from envelope) = Unit {0}

-- a step that may be next, with these logs: between actors of the shape, by the boxes, within the limits, and by its actor's protocol
pub record IsNextStep (shape : Shape) (logs : Logs) (step : Step) : Type 0 where
  pub actor : IsActor shape step.0
  pub other : IsActor shape (other_of step.1)
  pub box : KeepsBox logs step.0 step.1
  pub limits : KeepsLimits logs step.0 step.1
  pub conduct : KeepsConduct shape logs step.0 step.1

-- a run: it starts from empty logs, and each step might be next after those before it
abbrev pub IsRun : Shape → List Step → Type 0
IsRun shape [] = Unit {0}
IsRun shape (step ∷ older) = IsRun shape older × IsNextStep shape (log_of older) step

-- the logs of a run
pub record AreLogs (shape : Shape) (logs : Logs) : Type 0 where
  pub run : List Step
  pub is : IsRun shape run
  pub each : (a : Actor) → log_of run a ≡ logs a

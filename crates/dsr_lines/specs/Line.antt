-- Why a recorded step may not follow (this project): a step is judged as the event that it would be in a play.
use Rattle.std.specs.Prelude.{◌≡◌, ◌≢◌, ◌<◌, ℕ, Option, None, Some}
use Rattle.dsr_names.specs.Shape.{Shape, IsActor}
use Rattle.dsr_names.specs.declared.actor.Actor.{Actor}
use Rattle.dsr_names.specs.declared.actor.Actor.TheVariants.{Replica, Client}
use Rattle.dsr_desk.specs.Signature.{signed}
use Rattle.dsr_chain.specs.declared.signed_request.SignedRequest.{SignedRequest}
use Rattle.dsr_envelope.specs.Envelope.{Carries}
use Rattle.dsr_envelope.specs.Pick.{IsPick}
use Rattle.dsr_envelope.specs.declared.entry.Entry.TheVariants.{Post as PostEntry, Take as TakeEntry}
use Rattle.dsr_envelope.specs.declared.envelope.Envelope.{Envelope}
use Rattle.dsr_envelope.specs.declared.envelope.Envelope.TheVariants.{Empty, Round, Ask, Reply, Seen}
use Rattle.dsr_envelope.specs.declared.pick.Pick.{Pick}
use Rattle.dsr_envelope.specs.declared.pick.Pick.TheVariants.{Plain}
use Rattle.dsr_client.specs.Conduct.{told_choice}
use Rattle.dsr_client.specs.State.{outstanding}
use Rattle.dsr_script.specs.declared.forged.Forged.{Forged}
use Rattle.dsr_play.specs.declared.event.Event.{Event}
use Rattle.dsr_play.specs.declared.event.Event.TheVariants.{Post, Plant, Take, Tell}
use Rattle.dsr_run.specs.Run.{IsTraitor}
use Rattle.dsr_run.specs.Step.{Step, Logs}
use Rattle.dsr_world.specs.Event.{refusal_of, step_of}
use Rattle.dsr_facts.specs.Cause.{HoldsCause}
use Rattle.dsr_facts.specs.Difference.{IsDifference}
use Rattle.dsr_facts.specs.TakeFault.{HoldsOther}
use Rattle.dsr_facts.specs.declared.difference.Difference.{Difference}
use Rattle.dsr_lines.specs.Begun.{begun_choice, BeginsTwice}
use Rattle.dsr_lines.specs.declared.line_fault.LineFault.{LineFault}
use Rattle.dsr_lines.specs.declared.line_fault.LineFault.TheVariants.{Refused, OtherHeld, OtherPosted, SignedOutside, ClientTwice}

-- ---- the event that a step would be

-- the choice that a client's post to a replica shows, beside its outstanding request: an ask shows which choice it is; anything else counts as
-- the plain choice
abbrev pub begun_by : Envelope → Option SignedRequest → Pick
begun_by Empty current = Plain
begun_by (Round round chains) current = Plain
begun_by (Ask ask) current = told_choice current ask
begun_by (Reply reply) current = Plain
begun_by (Seen front) current = Plain

-- a loyal replica's post of this envelope to a replica: by the choice that begins a slot of its own; by the plain choice if that one
-- cannot be made
pub record IsShownPost (shape : Shape) (p q : ℕ) (found : Envelope) (event : Event) : Type 0 where
  pub pick : Pick
  pub is : event ≡ Post (Replica p) (Replica q) pick
  pub read : IsPick (begun_choice shape (Replica p) q found) → pick ≡ begun_choice shape (Replica p) q found
  pub plain : (IsPick (begun_choice shape (Replica p) q found) → ⊥) → pick ≡ Plain

-- a client's post of this envelope to a replica: by the choice that the envelope shows, if the client is one of the shape
pub record IsAsking (shape : Shape) (logs : Logs) (c q : ℕ) (found : Envelope) (event : Event) : Type 0 where
  pub pick : Pick
  pub is : event ≡ Post (Client c) (Replica q) pick
  pub asks : c < shape.m → pick ≡ begun_by found (outstanding shape (logs (Client c)))

-- a loyal replica's post of this envelope: to a client it has no choice
abbrev pub IsReplicaPost : Shape → ℕ → Actor → Envelope → Event → Type 0
IsReplicaPost shape p (Replica q) found event = IsShownPost shape p q found event
IsReplicaPost shape p (Client c) found event = event ≡ Post (Replica p) (Client c) Plain

-- a post: a traitor plants the envelope; a client tells another client; else it is the post by the choice that is shown
abbrev pub IsPostEvent : Shape → Logs → Actor → Actor → Envelope → Event → Type 0
IsPostEvent shape logs (Replica p) to found event =
    (IsTraitor shape (Replica p) → event ≡ Plant (Replica p) to found) × ((IsTraitor shape (Replica p) → ⊥) → IsReplicaPost shape p to found event)
IsPostEvent shape logs (Client c) (Replica q) found event = IsAsking shape logs c q found event
IsPostEvent shape logs (Client c) (Client d) found event = event ≡ Tell (Client c) (Client d)

-- the event that the step would be
abbrev pub IsEventOf : Shape → Logs → Step → Event → Type 0
IsEventOf shape logs (at, TakeEntry from found) event = event ≡ Take at from
IsEventOf shape logs (from, PostEntry to found) event = IsPostEvent shape logs from to found event

-- ---- what is wrong with it

-- nothing refuses the event, but the box holds another envelope than the one that is taken
abbrev pub IsOtherHeld : Shape → Logs → Event → Step → Type 0
IsOtherHeld shape logs event (at, TakeEntry from found) = (refusal_of shape logs event ≡ None) × HoldsOther logs from at found
IsOtherHeld shape logs event (from, PostEntry to found) = ⊥

-- nothing refuses the event, but it posts another envelope than this one, which differs from that so
abbrev pub IsOtherPosted : Shape → Logs → Event → Step → Envelope → Envelope → Difference → Type 0
IsOtherPosted shape logs event (at, TakeEntry from found) wanted posted how = ⊥
IsOtherPosted shape logs event (from, PostEntry to found) wanted posted how =
    (refusal_of shape logs event ≡ None) × (step_of shape logs event ≡ Some (from, PostEntry to wanted)) × (posted ≡ found) × (wanted ≢ posted)
    × IsDifference wanted posted how

-- the step would be an event for which this holds: nothing refuses it, and it takes or posts another envelope
pub record IsOtherStep (Other : Event → Type 0) (shape : Shape) (logs : Logs) (step : Step) : Type 0 where
  pub event : Event
  pub is : IsEventOf shape logs step event
  pub differs : Other event

-- the poster is not a traitor, and what it posts carries this signature, whose signer is not an actor of the shape
abbrev pub IsSignedOutside : Shape → Step → Forged → Type 0
IsSignedOutside shape (at, TakeEntry from found) s = ⊥
IsSignedOutside shape (from, PostEntry to found) s =
    (IsTraitor shape from → ⊥) × Carries found (signed s.signer s.statement) × (IsActor shape s.signer → ⊥)

-- why the step may not follow: the event that it would be is refused, or is another step; or nobody could have signed what it posts; or it
-- begins a slot with two requests of one client, which no choice does
abbrev pub HoldsFault : Shape → Logs → Step → LineFault → Type 0
HoldsFault shape logs step (Refused event cause) = IsEventOf shape logs step event × HoldsCause shape logs event cause
HoldsFault shape logs step OtherHeld = IsOtherStep (λ event. IsOtherHeld shape logs event step) shape logs step
HoldsFault shape logs step (OtherPosted wanted posted how) =
    IsOtherStep (λ event. IsOtherPosted shape logs event step wanted posted how) shape logs step × ((c : ℕ) → BeginsTwice shape step c → ⊥)
HoldsFault shape logs step (SignedOutside s) = IsSignedOutside shape step s
HoldsFault shape logs step (ClientTwice c) =
    IsOtherStep (λ event. refusal_of shape logs event ≡ None) shape logs step × BeginsTwice shape step c

-- the cause that a fault tells holds of its event
abbrev pub HoldsItsCause : Shape → Logs → LineFault → Type 0
HoldsItsCause shape logs (Refused event cause) = HoldsCause shape logs event cause
HoldsItsCause shape logs OtherHeld = Unit {0}
HoldsItsCause shape logs (OtherPosted wanted posted how) = Unit {0}
HoldsItsCause shape logs (SignedOutside s) = Unit {0}
HoldsItsCause shape logs (ClientTwice c) = Unit {0}

-- Why a recorded take may not follow (this project).
use Rattle.std.specs.Prelude.{◌≡◌, ◌≢◌, None, Some}
use Rattle.dsr_names.specs.Shape.{Shape}
use Rattle.dsr_names.specs.declared.actor.Actor.{Actor}
use Rattle.dsr_envelope.specs.declared.envelope.Envelope.{Envelope}
use Rattle.dsr_play.specs.declared.event.Event.TheVariants.{Take}
use Rattle.dsr_run.specs.Step.{Logs}
use Rattle.dsr_world.specs.Event.{in_box, refusal_of}
use Rattle.dsr_facts.specs.Cause.{HoldsCause}
use Rattle.dsr_facts.specs.declared.fault.Fault.{Fault}
use Rattle.dsr_facts.specs.declared.fault.Fault.TheVariants.{Refused, OtherHeld, OtherPosted}

-- the box from one actor to another holds an envelope other than this
pub record HoldsOther (logs : Logs) (from to : Actor) (found : Envelope) : Type 0 where
  pub held : Envelope
  pub holds : in_box logs from to ≡ Some held
  pub apart : held ≢ found

-- why an actor does not take this envelope from another: the take is refused, or what it takes is another envelope
abbrev pub HoldsTakeFault : Shape → Logs → Actor → Actor → Envelope → Fault → Type 0
HoldsTakeFault shape logs at from found (Refused cause) = HoldsCause shape logs (Take at from) cause
HoldsTakeFault shape logs at from found OtherHeld = (refusal_of shape logs (Take at from) ≡ None) × HoldsOther logs from at found
HoldsTakeFault shape logs at from found (OtherPosted wanted how) = ⊥

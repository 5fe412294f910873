-- What is found out about a step before the stage goes on by it.
use Rattle.std.specs.Prelude.{◌≡◌, ◌≢◌, Some}
use Rattle.dsr_names.specs.Shape.{Shape, IsActor}
use Rattle.dsr_desk.specs.Signature.{signed}
use Rattle.dsr_envelope.specs.Envelope.{Carries}
use Rattle.dsr_envelope.specs.declared.envelope.Envelope.{Envelope}
use Rattle.dsr_run.specs.Step.{Step, Logs}
use Rattle.dsr_world.specs.Event.{step_of, MayBeDone}
use Rattle.dsr_facts.specs.Difference.{IsDifference}
use Rattle.dsr_lines.specs.Line.{HoldsFault}
use Rattle.dsr_lines.specs.declared.judged.Judged.{Judged}
use Rattle.dsr_lines.specs.declared.judged.Judged.TheVariants.{May, Not}
use Rattle.dsr_lines.specs.declared.line_fault.LineFault.{LineFault}
use Rattle.dsr_lines.specs.declared.line_fault.LineFault.TheVariants.{Refused, OtherHeld, OtherPosted, SignedOutside, ClientTwice}
use Rattle.dsr_lines.specs.declared.notary.Made.{Made}
use Rattle.dsr_lines.specs.declared.notary.Made.TheVariants.{Whole, Outside}

-- the notary makes the envelope that the draft describes; or it cannot make this signature, which the draft carries, since its signer is
-- not an actor of the shape
abbrev pub IsMade : Shape → Envelope → Made → Type 0
IsMade shape draft (Whole envelope) = envelope ≡ draft
IsMade shape draft (Outside s) = Carries draft (signed s.signer s.statement) × (IsActor shape s.signer → ⊥)

-- the fault of posting `found` where `wanted` is posted
abbrev pub IsOther : Envelope → Envelope → LineFault → Type 0
IsOther wanted found (Refused event cause) = ⊥
IsOther wanted found OtherHeld = ⊥
IsOther wanted found (OtherPosted ours theirs how) = (ours ≡ wanted) × (theirs ≡ found) × (ours ≢ theirs) × IsDifference ours theirs how
IsOther wanted found (SignedOutside s) = ⊥
IsOther wanted found (ClientTwice c) = ⊥

-- the step is that of this event, which nothing refuses; or this is why the step may not follow
abbrev pub IsJudged : Shape → Logs → Step → Judged → Type 0
IsJudged shape logs step (May event) = (step_of shape logs event ≡ Some step) × MayBeDone shape logs event
IsJudged shape logs step (Not fault) = HoldsFault shape logs step fault

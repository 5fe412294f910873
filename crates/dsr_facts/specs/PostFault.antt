-- Why a recorded post of a loyal replica to a replica may not follow (this project).
use Rattle.std.specs.Prelude.{◌≡◌, ℕ, None, Some}
use Rattle.dsr_names.specs.Shape.{Shape}
use Rattle.dsr_names.specs.declared.actor.Actor.TheVariants.{Replica}
use Rattle.dsr_envelope.specs.declared.envelope.Envelope.{Envelope}
use Rattle.dsr_envelope.specs.declared.pick.Pick.{Pick}
use Rattle.dsr_envelope.specs.declared.pick.Pick.TheVariants.{Plain}
use Rattle.dsr_envelope.specs.Pick.{IsPick}
use Rattle.dsr_node.specs.Conduct.{post_of}
use Rattle.dsr_play.specs.declared.event.Event.TheVariants.{Post}
use Rattle.dsr_replica.specs.Shown.{shown_choice}
use Rattle.dsr_run.specs.Step.{Logs}
use Rattle.dsr_world.specs.Event.{refusal_of}
use Rattle.dsr_facts.specs.Cause.{HoldsCause}
use Rattle.dsr_facts.specs.Difference.{IsDifference}
use Rattle.dsr_facts.specs.Fault.{IsRead}
use Rattle.dsr_facts.specs.declared.fault.Fault.{Fault}
use Rattle.dsr_facts.specs.declared.fault.Fault.TheVariants.{Refused, OtherHeld, OtherPosted}

-- why a loyal replica does not post this envelope to a replica by this choice: the post is refused, or the replica posts another
-- envelope, and this one differs from that as stated
abbrev pub IsPostFault : Shape → Logs → ℕ → ℕ → Envelope → Pick → Fault → Type 0
IsPostFault shape logs p q found pick (Refused cause) = HoldsCause shape logs (Post (Replica p) (Replica q) pick) cause
IsPostFault shape logs p q found pick OtherHeld = ⊥
IsPostFault shape logs p q found pick (OtherPosted wanted how) =
    (refusal_of shape logs (Post (Replica p) (Replica q) pick) ≡ None)
    × (post_of shape (logs (Replica p)) (Replica p) (Replica q) pick ≡ Some wanted) × IsDifference wanted found how

-- the same, by the choice that the envelope shows; by the plain choice if it shows none that can be made
pub record HoldsPostFault (shape : Shape) (logs : Logs) (p q : ℕ) (found : Envelope) (fault : Fault) : Type 0 where
  pub pick : Pick
  pub read : IsRead shape (Replica p) q found pick
  pub plain : (IsPick (shown_choice shape (Replica p) q found) → ⊥) → pick ≡ Plain
  pub why : IsPostFault shape logs p q found pick fault

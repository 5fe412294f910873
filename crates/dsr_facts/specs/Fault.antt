-- Why a recorded post of a loyal replica may not follow (this project).
use Rattle.std.specs.Prelude.{◌≡◌, ◌<◌, ◌^◌, ℕ, List, Option, None, Some, IsSome}
use Rattle.dsr_names.specs.Shape.{Shape}
use Rattle.dsr_names.specs.declared.actor.Actor.{Actor}
use Rattle.dsr_names.specs.declared.actor.Actor.TheVariants.{Replica}
use Rattle.dsr_envelope.specs.declared.envelope.Envelope.{Envelope}
use Rattle.dsr_envelope.specs.declared.entry.Entry.{Entry}
use Rattle.dsr_envelope.specs.declared.entry.Entry.TheVariants.{Post}
use Rattle.dsr_envelope.specs.declared.pick.Pick.{Pick}
use Rattle.dsr_envelope.specs.declared.pick.Pick.TheVariants.{Plain, From}
use Rattle.dsr_envelope.specs.Log.{rounds}
use Rattle.dsr_envelope.specs.Pick.{IsPick}
use Rattle.dsr_replica.specs.Conduct.{IsNext, envelope_to}
use Rattle.dsr_replica.specs.Shown.{shown_choice}
use Rattle.dsr_facts.specs.Difference.{IsDifference}
use Rattle.dsr_facts.specs.Undue.{IsUndueRound}
use Rattle.dsr_facts.specs.declared.fault.Fault.{Fault}
use Rattle.dsr_facts.specs.declared.fault.Fault.TheVariants.{Refused, OtherPosted}
use Rattle.dsr_facts.specs.declared.cause.Cause.TheVariants.{NotDue, Exhausted}
use Rattle.dsr_facts.specs.declared.cause.Limit.TheVariants.{Rounds}

-- the choice of these clients; without clients, the plain one
abbrev pub choice_by : Option (List ℕ) → Pick
choice_by None = Plain
choice_by (Some clients) = From clients

-- the choice is the one that the envelope shows, if that is one that can be made
abbrev pub IsRead : Shape → Actor → ℕ → Envelope → Pick → Type 0
IsRead shape me q found pick = IsPick (shown_choice shape me q found) → pick ≡ shown_choice shape me q found

-- why a loyal replica with this log and this choice does not post this envelope to this replica: no post is due; or the rounds are
-- exhausted; or the replica posts another envelope, and this one differs from that as stated
abbrev pub IsRoundFault : Shape → Actor → List Entry → ℕ → Envelope → Pick → Fault → Type 0
IsRoundFault shape me log q found pick (Refused (NotDue why)) = IsUndueRound shape me log q pick why
IsRoundFault shape me log q found pick (Refused (Exhausted Rounds)) = IsSome (envelope_to shape me log q pick) × (rounds shape log < 2 ^ 36 → ⊥)
IsRoundFault shape me log q found pick (OtherPosted wanted how) = (envelope_to shape me log q pick ≡ Some wanted) × IsDifference wanted found how
IsRoundFault shape me log q found pick fault = ⊥

-- the same, by the choice that the envelope shows; by the plain choice if it shows none that can be made
pub record HoldsRoundFault (shape : Shape) (me : Actor) (log : List Entry) (q : ℕ) (found : Envelope) (fault : Fault) : Type 0 where
  pub pick : Pick
  pub read : IsRead shape me q found pick
  pub plain : (IsPick (shown_choice shape me q found) → ⊥) → pick ≡ Plain
  pub why : IsRoundFault shape me log q found pick fault

-- by its own log, a loyal replica may post this envelope to this replica
abbrev pub MayPostRound : Shape → Actor → List Entry → ℕ → Envelope → Type 0
MayPostRound shape me log q found = IsNext shape me log (Post (Replica q) found) × (rounds shape log < 2 ^ 36)

-- What has a fault may not be posted.
use Rattle.std.proofs.Common.{◌≡◌, ℕ, List, Some, sym, ◌∙◌}
use Rattle.std.proofs.lemmas.Option.{none-some, same_Some}
use Rattle.dsr_names.specs.Shape.{Shape}
use Rattle.dsr_names.specs.declared.actor.Actor.{Actor}
use Rattle.dsr_envelope.specs.declared.envelope.Envelope.{Envelope}
use Rattle.dsr_envelope.specs.declared.entry.Entry.{Entry}
use Rattle.dsr_envelope.specs.declared.pick.Pick.{Pick}
use Rattle.dsr_replica.specs.Conduct.{envelope_to}
use Rattle.dsr_facts.specs.Fault.{IsRead, IsRoundFault, HoldsRoundFault, MayPostRound}
use Rattle.dsr_facts.specs.declared.fault.Fault.{Fault}
use Rattle.dsr_facts.specs.declared.fault.Fault.TheVariants.{Refused, OtherPosted}
use Rattle.dsr_facts.specs.declared.cause.Cause.TheVariants.{NotDue, Exhausted}
use Rattle.dsr_facts.specs.declared.cause.Limit.TheVariants.{Rounds}
use Rattle.dsr_facts.proofs.DifferenceLemmas.{difference_apart}
use Rattle.dsr_facts.proofs.Showing.{ours_gives}
use Rattle.dsr_facts.proofs.UndueLemmas.{undue_refuses}

-- by the choice that is read off an envelope which may be posted it is given
pub read_gives : (shape : Shape) (me : Actor) (log : List Entry) (q : ℕ) (found : Envelope) (pick : Pick) → IsRead shape me q found pick
    → MayPostRound shape me log q found → envelope_to shape me log q pick ≡ Some found
read_gives shape me log q found pick read may = ours_gives shape me log q found pick read may.0.0 may.0.1 may.0.2

stops : (shape : Shape) (me : Actor) (log : List Entry) (q : ℕ) (found : Envelope) (pick : Pick) (fault : Fault) → IsRead shape me q found pick
    → IsRoundFault shape me log q found pick fault → MayPostRound shape me log q found → ⊥
stops shape me log q found pick (Refused (NotDue why)) read is may =
    none-some found (sym (undue_refuses shape me log q pick why is) ∙ read_gives shape me log q found pick read may)
stops shape me log q found pick (Refused (Exhausted Rounds)) read is may = is.1 may.1
stops shape me log q found pick (OtherPosted wanted how) read is may =
    difference_apart wanted found how is.1 (same_Some wanted found (sym is.0 ∙ read_gives shape me log q found pick read may))
stops shape me log q found pick fault read is may = elim is [ ]

pub round_fault_stops : (shape : Shape) (me : Actor) (log : List Entry) (q : ℕ) (found : Envelope) (fault : Fault)
    → HoldsRoundFault shape me log q found fault → MayPostRound shape me log q found → ⊥
round_fault_stops shape me log q found fault holds = stops shape me log q found holds.pick fault holds.read holds.why

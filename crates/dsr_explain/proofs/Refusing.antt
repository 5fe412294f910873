-- A refused event may not be done.
use Rattle.std.proofs.Common.{◌≢◌, inl, inr, sym, ◌∙◌}
use Rattle.std.proofs.lemmas.Option.{none-some}
use Rattle.dsr_names.specs.Shape.{Shape}
use Rattle.dsr_names.specs.declared.refusal.Refusal.{Refusal}
use Rattle.dsr_names.specs.declared.refusal.Refusal.TheVariants.{NoMemory}
use Rattle.dsr_play.specs.declared.event.Event.{Event}
use Rattle.dsr_run.specs.Step.{Logs}
use Rattle.dsr_world.specs.Event.{IsRefusedBy, MayBeDone}

-- if an event is refused for another reason than memory, it may not be done
pub refused_not_done : (shape : Shape) (logs : Logs) (event : Event) (refusal : Refusal) → IsRefusedBy shape logs event refusal → refusal ≢ NoMemory
    → ¬ MayBeDone shape logs event
refused_not_done shape logs event refusal (inl tested) apart may = none-some refusal (sym may.0 ∙ tested)
refused_not_done shape logs event refusal (inr (inl forged)) apart may = may.1 forged.1.1
refused_not_done shape logs event refusal (inr (inr memory)) apart may = apart memory.0

-- The outcome of a list of events (this project).
use Rattle.std.specs.Prelude.{◌≡◌, ℕ, suc, ◌+◌, List, [], ◌∷◌, Option, None, Some}
use Rattle.dsr_names.specs.Shape.{Shape}
use Rattle.dsr_names.specs.declared.refusal.Refusal.{Refusal}
use Rattle.dsr_names.specs.declared.refusal.Refusal.TheVariants.{NoMemory}
use Rattle.dsr_ledger.specs.declared.reply.Reply.{Reply as AReply}
use Rattle.dsr_play.specs.declared.event.Event.{Event}
use Rattle.dsr_world.specs.declared.run_end.RunEnd.{RunEnd}
use Rattle.dsr_world.specs.Event.{HasDone, IsRefusedBy, MayBeDone}
use Rattle.dsr_run.specs.Step.{Step, log_of}

-- the outcome of an event: it was done, or it was refused with this and nothing changed
abbrev pub IsOutcome : Shape → (later earlier : List Step) → Event → Option Refusal → Type 0
IsOutcome shape later earlier event None =
    MayBeDone shape (log_of earlier) event × ((reply : Option AReply) × HasDone shape later earlier event reply)
IsOutcome shape later earlier event (Some refusal) = (later ≡ earlier) × IsRefusedBy shape (log_of earlier) event refusal

-- the outcomes of the events in turn, each with the logs that were reached
abbrev pub AreOutcomes : Shape → (later earlier : List Step) → List Event → List (Option Refusal) → Type 0
AreOutcomes shape later earlier [] [] = later ≡ earlier
AreOutcomes shape later earlier [] (outcome ∷ outcomes) = ⊥
AreOutcomes shape later earlier (event ∷ events) [] = ⊥
AreOutcomes shape later earlier (event ∷ events) (outcome ∷ outcomes) =
    (next : List Step) × IsOutcome shape next earlier event outcome × AreOutcomes shape later next events outcomes

-- how many events were done
abbrev pub done_in : List (Option Refusal) → ℕ
done_in [] = 0
done_in (None ∷ rest) = suc (done_in rest)
done_in (Some refusal ∷ rest) = done_in rest

-- how many events were refused
abbrev pub refused_in : List (Option Refusal) → ℕ
refused_in [] = 0
refused_in (None ∷ rest) = refused_in rest
refused_in (Some refusal ∷ rest) = suc (refused_in rest)

-- 1 if memory ran out, else 0
abbrev pub starved_by : Refusal → ℕ
starved_by NoMemory = 1
starved_by other = 0

-- how many events were refused because memory ran out
abbrev pub starved_in : List (Option Refusal) → ℕ
starved_in [] = 0
starved_in (None ∷ rest) = starved_in rest
starved_in (Some refusal ∷ rest) = starved_by refusal + starved_in rest

-- the first refusal, with the index of its event, if the first event has this index
abbrev pub first_from : ℕ → List (Option Refusal) → Option (ℕ × Refusal)
first_from index [] = None
first_from index (None ∷ rest) = first_from (suc index) rest
first_from index (Some refusal ∷ rest) = Some (index, refusal)

-- the numbers of an end are those of the outcomes
pub record Counts (outcomes : List (Option Refusal)) (end : RunEnd) : Type 0 where
  pub done : end.done ≡ done_in outcomes
  pub refused : end.refused ≡ refused_in outcomes
  pub starved : end.starved ≡ starved_in outcomes
  pub first : end.first ≡ first_from 0 outcomes

-- how the events ended: each in turn was done or refused, and the end has the numbers of these outcomes
pub record HasEnded (shape : Shape) (later earlier : List Step) (events : List Event) (end : RunEnd) : Type 0 where
  pub outcomes : List (Option Refusal)
  pub are : AreOutcomes shape later earlier events outcomes
  pub counts : Counts outcomes end

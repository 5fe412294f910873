-- What a replica decides for a slot after its round f+1 (Dolev and Strong 1983: the value if exactly one was
-- extracted, else the default; this project's default is idle).
use Rattle.std.specs.Prelude.{ℕ, suc, List, [], ◌∷◌}
use Rattle.dsr_names.specs.Shape.{Shape}
use Rattle.dsr_chain.specs.Chain.{Chain}
use Rattle.dsr_chain.specs.declared.slot_value.SlotValue.{SlotValue}
use Rattle.dsr_chain.specs.declared.slot_value.SlotValue.TheVariants.{Idle}
use Rattle.dsr_slot.specs.declared.kept.Kept.{Kept}
use Rattle.dsr_slot.specs.Keeping.{kept_after}

-- the value of the kept chain if there is just one, else idle
abbrev pub decision : List Kept → SlotValue
decision [] = Idle
decision (k ∷ []) = k.chain.value
decision (k ∷ l ∷ more) = Idle

-- what is decided from the chains that are kept after the rounds 1 to f+1
abbrev pub decided : Shape → ℕ → (ℕ → List Chain) → SlotValue
decided shape slot read = decision (kept_after shape slot read (suc shape.f))

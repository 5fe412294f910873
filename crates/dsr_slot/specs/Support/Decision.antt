-- What the chain of a decision holds (this project).
use Rattle.std.specs.Prelude.{Option, None, Some}
use Rattle.dsr_chain.specs.Chain.{Chain}
use Rattle.dsr_chain.specs.declared.slot_value.SlotValue.{SlotValue}
use Rattle.dsr_chain.specs.declared.slot_value.SlotValue.TheVariants.{Idle}

-- the value of the chain; idle without a chain
abbrev pub held_value : Option Chain → SlotValue
held_value None = Idle
held_value (Some chain) = chain.value

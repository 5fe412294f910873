-- How contracts see the state of one slot at one replica (this project).
use Rattle.std.specs.Prelude.{◌≡◌, ℕ, suc, ◌<◌, ◌==◌, List, [], ◌∷◌, ◌++◌, Option, None, Some, if◌then◌else◌}
use Rattle.dsr_names.specs.Shape.{Shape}
use Rattle.dsr_chain.specs.Chain.{Chain}
use Rattle.dsr_chain.specs.declared.slot_value.SlotValue.{SlotValue}
use Rattle.dsr_slot.specs.declared.kept.Kept.{Kept}
use Rattle.dsr_slot.specs.Keeping.{keep_one, keep, kept_after}
use Rattle.dsr_slot.specs.Decision.{decision}

-- the shape, the slot, the number of its closed rounds, and the kept chains
pub record SlotState : Type 0 where
  pub shape : Shape
  pub slot : ℕ
  pub closed : ℕ
  pub kept : List Kept

-- the state before any round is closed
abbrev pub opened : Shape → ℕ → SlotState
opened shape slot = record { shape = shape; slot = slot; closed = 0; kept = [] }

-- the state after one more chain is read, in the round after the closed ones
abbrev pub with_chain : SlotState → Chain → SlotState
with_chain state chain = record state { kept = keep_one state.shape state.slot (suc state.closed) state.kept chain }

-- the state after that round is closed
abbrev pub with_closed : SlotState → SlotState
with_closed state = record state { closed = suc state.closed }

-- the state after these chains are read in this round and it is closed
abbrev pub with_round : SlotState → ℕ → List Chain → SlotState
with_round state round chains = record state { closed = round; kept = keep state.shape state.slot round state.kept chains }

-- the state represents what `read` gives for each closed round
abbrev pub StandsFor : SlotState → (ℕ → List Chain) → Type 0
StandsFor state read = state.kept ≡ kept_after state.shape state.slot read state.closed

-- the state represents what `read` gives for each closed round and for the round after them
abbrev pub HasRead : SlotState → (ℕ → List Chain) → Type 0
HasRead state read = state.kept ≡ kept_after state.shape state.slot read (suc state.closed)

-- both give the same for the rounds before this one, and for this one `later` gives one more chain, the last
pub record IsOneChainMore (earlier later : ℕ → List Chain) (round : ℕ) (chain : Chain) : Type 0 where
  pub before : (r : ℕ) → 0 < r → r < round → later r ≡ earlier r
  pub last : later round ≡ earlier round ++ chain ∷ []

-- the decision, if round f+1 is closed
abbrev pub decision_of : SlotState → Option SlotValue
decision_of state = if state.closed == suc state.shape.f then Some (decision state.kept) else None

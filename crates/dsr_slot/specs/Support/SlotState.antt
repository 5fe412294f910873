-- What the fields of a slot's state hold (this project).
use Rattle.std.specs.Prelude.{◌≡◌, ℕ, ◌+◌, ◌≤◌, ◌++◌, None, IfSome, length}
use Rattle.std.specs.Option.{option_to_list}
use Rattle.dsr_names.specs.Shape.{Shape}
use Rattle.dsr_chain.specs.Proper.{IsProper}
use Rattle.dsr_slot.specs.declared.kept.Kept.{Kept}
use Rattle.dsr_slot.specs.declared.slot_state.SlotState.TheInside.{Inside}
use Rattle.dsr_slot.specs.SlotState.{SlotState}

-- the state in these fields: the kept chains are those of the two fields, in their order
abbrev pub slot_state_of : Inside → SlotState
slot_state_of a = record {
  shape = a.shape;
  slot = a.slot;
  closed = a.closed;
  kept = option_to_list a.first ++ option_to_list a.second;
}

-- a kept chain is of some round of a slot: it has as many signatures as the round's number, which is at most 8
pub record IsOfSomeRound (k : Kept) : Type 0 where
  pub counted : length k.chain.signatures ≡ k.round
  pub within : k.round ≤ 8

-- a kept chain is proper for the slot's round stored with it
pub record IsProperlyKept (shape : Shape) (slot : ℕ) (k : Kept) : Type 0 where
  pub within : k.round ≤ shape.f + 1
  pub proper : IsProper shape slot k.round k.chain

-- each kept chain is proper for its round; the second field is empty if the first is, and no more rounds are closed
-- than the slot has, at most 8
pub record IsSlotFields (a : Inside) : Type 0 where
  pub in_order : a.first ≡ None → a.second ≡ None
  pub closed : a.closed ≤ a.shape.f + 1
  pub few : a.shape.f ≤ 7
  pub first : IfSome a.first (IsProperlyKept a.shape a.slot)
  pub second : IfSome a.second (IsProperlyKept a.shape a.slot)

-- How the state of a slot, and a decision, are stored in their fields. No public contract cites this: it
-- serves `impl Model` and private contracts.
pub mod Decision
pub mod SlotState

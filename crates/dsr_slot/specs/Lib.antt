pub mod Broadcast
pub mod Conduct
pub mod Decision
pub mod Fate
pub mod Keeping
pub mod Kept
pub mod SlotState
pub mod Support

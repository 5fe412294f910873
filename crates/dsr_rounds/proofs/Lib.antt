pub mod Going
pub mod Proposing
pub mod Rounds
pub mod Scripts
pub mod Turns

mod Blindness
mod Ending
mod Keeping
pub mod NextSteps
mod Opening
mod Playings
mod Repeating
mod StageLemmas
mod Stepping
mod WorldPosts
pub mod WorldTakes
pub mod Worlds

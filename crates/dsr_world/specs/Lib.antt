pub mod Event
pub mod Outcome
pub mod Playing
pub mod Stage
pub mod Support
pub mod World

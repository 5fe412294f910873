pub mod Conduct
pub mod Counts
pub mod Decided
pub mod Held
pub mod Posts
pub mod Replica
pub mod Shown
pub mod Support

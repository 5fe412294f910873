pub mod Accepted
pub mod Client
pub mod Conduct
pub mod Issue
pub mod State
pub mod Support

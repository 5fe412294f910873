pub mod Support
pub mod Tally
pub mod Votes

pub mod Judged
pub mod Support
pub mod Verdict

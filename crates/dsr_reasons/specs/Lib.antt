pub mod Digits
pub mod Reason
pub mod Support

pub mod Envelope
pub mod Limits
pub mod Log
pub mod Pick
pub mod Support

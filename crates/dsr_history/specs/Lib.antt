pub mod Applied
pub mod History
pub mod Machine
pub mod Support

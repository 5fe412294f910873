pub mod Begun
pub mod Line
pub mod Record
pub mod Support

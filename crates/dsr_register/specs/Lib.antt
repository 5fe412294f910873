pub mod Support
pub mod Table
pub mod Values

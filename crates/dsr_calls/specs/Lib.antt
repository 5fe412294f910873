pub mod Calls
pub mod Course
pub mod Limits
pub mod Visits

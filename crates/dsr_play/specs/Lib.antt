pub mod Event
pub mod Play
pub mod PlayText
pub mod Support
pub mod TakenEvents

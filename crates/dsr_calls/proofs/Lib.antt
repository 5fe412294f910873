mod Awaiting
mod Following
pub mod Turns

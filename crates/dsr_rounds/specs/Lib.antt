pub mod Eagerness
pub mod Ends
pub mod Limits
pub mod Replicas
pub mod Traitors
pub mod Tries
pub mod Turns

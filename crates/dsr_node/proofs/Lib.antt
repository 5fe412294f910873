mod Blindness
mod Conduct
pub mod Lemmas
mod Playing

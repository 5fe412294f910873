mod Accepting
mod Answering
mod Asked
mod Blindness
mod Carried
mod Choosing
mod Counted
mod Dropping
mod Fronts
mod Issuing
pub mod Lemmas
mod Numbers
mod States

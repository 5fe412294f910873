mod Blindness
mod ChainLaws
mod Contents
mod Keeping
mod FaultLemmas
pub mod Lemmas
mod ProperDecides
mod Sameness
mod Twice

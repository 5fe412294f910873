pub mod Lemmas
mod Standing
mod Voting

mod Closing
pub mod Lemmas

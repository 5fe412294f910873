mod Agreement
mod Blindness
mod Deciding
mod Fates
mod Fields
mod KeepLemmas
mod Keeps
pub mod Lemmas
mod Lists
mod Posting
mod Silence
mod Standing

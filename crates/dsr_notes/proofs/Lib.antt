mod AskLemmas
mod ClosingLemmas
pub mod DoneLemmas
mod NotingLemmas
mod ReadingLemmas
mod ReadingLemmasOfTakes
mod UnproposedLemmas
mod VoteLemmas

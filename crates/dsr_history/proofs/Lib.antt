mod HistoryLaws
mod LastReplies
pub mod Lemmas
mod LineLemmas
mod MachineLemmas
mod RunLemmas
mod ServiceLemmas
mod Standing

mod DecidedLemmas
pub mod PlayedLemmas
mod VerdictLemmas

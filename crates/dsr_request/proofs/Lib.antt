mod AnswerLemmas
mod Names
mod OpLemmas
pub mod RequestTextLemmas
pub mod Words

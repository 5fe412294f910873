mod EntryLemmas
pub mod ValueLemmas

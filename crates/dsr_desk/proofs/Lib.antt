mod Flags
pub mod LinksLemmas
mod StatementLemmas

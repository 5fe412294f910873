mod FitLemmas
pub mod KeyLemmas
mod LineLemmas
mod MergeBoxes
mod MergeLemmas
mod RunLemmas
mod SpellLemmas
mod TitleLemmas

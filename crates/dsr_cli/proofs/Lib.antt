mod ExplainedLemmas
mod MergeLemmas
mod ServedLemmas
mod ServiceLemmas
mod StatusLemmas

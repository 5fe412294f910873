mod CauseLemmas
mod DifferenceLemmas
mod FaultLemmas
mod PostLemmas
mod Showing
mod TakeLemmas
mod UndueLemmas

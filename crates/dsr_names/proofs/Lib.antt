pub mod BitLemmas
mod ClientTokens
mod OldLemmas
pub mod PlaceLemmas
mod ReplicaSets
mod ReplicaTokens
mod Sending

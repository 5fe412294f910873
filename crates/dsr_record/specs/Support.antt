-- Which keys a notary has so far, how noted entries are seen, what is stored of envelopes that were read, and merges of logs.
pub mod KeysBelow
pub mod LastRead
pub mod Merging
pub mod Noted

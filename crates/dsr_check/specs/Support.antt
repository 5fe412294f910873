-- What no public contract cites: how an audit and its parties represent a run, how the registers of a judge's table represent
-- it, and how far its walks are.
pub mod Audit
pub mod Heads
pub mod Party
pub mod Table

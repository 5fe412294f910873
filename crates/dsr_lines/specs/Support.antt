-- What no public contract cites: what is found out about a line before the stage goes on by it.
pub mod Judged

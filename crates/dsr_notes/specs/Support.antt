-- What is noted of an event before it happens, and what remains to be noted. No public contract cites this.
pub mod Reading
pub mod Rest

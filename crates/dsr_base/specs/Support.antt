-- How lists and padded arrays are stored in their fields, and what `==` decides for them. No public contract cites these: they
-- serve `impl Model` and `==` alone.
pub mod Equality
pub mod Few
pub mod Padded
pub mod UpTo

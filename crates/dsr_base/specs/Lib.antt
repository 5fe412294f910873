pub mod Bits
pub mod Boxes
pub mod Growth
pub mod Joined
pub mod Member
pub mod Reads
pub mod Split
pub mod Support

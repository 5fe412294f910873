pub mod Checked
pub mod Played
pub mod Report
pub mod Support

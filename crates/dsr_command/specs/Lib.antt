pub mod Asked
pub mod CommandLine
pub mod Readings
pub mod ShownTexts
pub mod Support
pub mod Values
pub mod Wishes

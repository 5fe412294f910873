pub mod FirstBad
pub mod Keys
pub mod Merge
pub mod Record
pub mod RecordFile
pub mod RecordText
pub mod Support

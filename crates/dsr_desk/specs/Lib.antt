pub mod ContentText
pub mod Keys
pub mod Links
pub mod Signature
pub mod SignersText
pub mod StatementText
pub mod Support

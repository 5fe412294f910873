pub mod AnswerText
pub mod NameText
pub mod OpText
pub mod Register
pub mod Request
pub mod RequestText
pub mod RequestsText
pub mod Support

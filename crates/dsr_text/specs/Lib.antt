pub mod Header
pub mod Lines
pub mod TakenLines

pub mod Conduct
pub mod Customer
pub mod Node

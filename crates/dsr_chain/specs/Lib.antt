pub mod Chain
pub mod Content
pub mod Faults
pub mod Proper
pub mod ProperTest
pub mod Support

pub mod Cause
pub mod Difference
pub mod Fault
pub mod PostFault
pub mod TakeFault
pub mod Undue

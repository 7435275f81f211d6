pub mod Estimate
pub mod Record
pub mod Calls

pub mod Sums
pub mod Parts
pub mod Calls

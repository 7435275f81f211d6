pub mod Code
pub mod Table
pub mod Parts
pub mod Calls

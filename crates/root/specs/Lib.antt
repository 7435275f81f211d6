pub mod Isqrt
pub mod Root
pub mod Parts
pub mod Calls

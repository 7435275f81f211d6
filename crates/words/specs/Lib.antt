pub mod Sums
pub mod Lists
pub mod Digits
pub mod Bytes
pub mod Floats
pub mod Limits
pub mod Metrics
pub mod Refusals

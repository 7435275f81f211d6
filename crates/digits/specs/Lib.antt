pub mod Digits
pub mod Found
pub mod Calls

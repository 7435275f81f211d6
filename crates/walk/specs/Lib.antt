pub mod Walk
pub mod Packed
pub mod Parts

pub mod Rerank
pub mod Calls
pub mod Demand
pub mod Parts

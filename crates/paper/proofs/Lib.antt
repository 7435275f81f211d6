pub mod TableLaws
pub mod Demand1Laws
pub mod Demand2Laws
pub mod Demand3Laws

pub mod DigitLaws
pub mod WholeLaws

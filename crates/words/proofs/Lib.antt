pub mod SumLaws
pub mod ListLaws
pub mod DigitLaws
pub mod ByteLaws
pub mod WordsLaws
pub mod FloatLaws
pub mod RefusalLaws

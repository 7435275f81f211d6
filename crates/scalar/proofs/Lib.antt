pub mod RoundLaws
pub mod ScalarLaws
pub mod TableLaws

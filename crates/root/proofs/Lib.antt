pub mod SquareLaws
pub mod FieldLaws
pub mod RoundingLaws
pub mod PatternLaws
pub mod CaseLaws
pub mod NearestLaws
pub mod GuessLaws
pub mod BitsLaws

pub mod PlainLaws
pub mod GroupLaws
pub mod PlaneLaws
pub mod TableLaws
pub mod CallLaws
pub mod SumsLaws
pub mod FullLaws

pub mod EstimateLaws
pub mod LaneLaws
pub mod CallLaws
pub mod AgreeLaws
pub mod Rows

pub mod Judge
pub mod Turn

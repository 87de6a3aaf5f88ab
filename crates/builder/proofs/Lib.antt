pub mod Stores
pub mod Windows
pub mod Holding
pub mod Answers
pub mod Numbers
pub mod OneResult
pub mod BuiltTables

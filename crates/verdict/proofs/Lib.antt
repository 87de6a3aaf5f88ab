pub mod Jobs
pub mod Turns
pub mod OneResult

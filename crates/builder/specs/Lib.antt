pub mod Rows
pub mod Build
pub mod Steps

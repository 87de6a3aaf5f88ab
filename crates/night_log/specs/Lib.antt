pub mod Bytes
pub mod Rows
pub mod Read
pub mod Write
pub mod Judge
pub mod Reader
pub mod Calls

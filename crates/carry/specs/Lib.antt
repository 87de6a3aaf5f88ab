pub mod Bytes
pub mod Rows
pub mod Write
pub mod Read

pub mod Bytes
pub mod Rows
pub mod Check
pub mod Writable
pub mod Shared

pub mod Numbered
pub mod Work
pub mod Rows
pub mod Stores

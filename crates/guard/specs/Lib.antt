pub mod Guard
pub mod Told
pub mod Row
pub mod Runs

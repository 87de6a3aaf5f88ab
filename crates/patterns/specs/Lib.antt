pub mod Outcome
pub mod Tested
pub mod Order
pub mod Number

pub mod Compare
pub mod Splits
pub mod Allowed

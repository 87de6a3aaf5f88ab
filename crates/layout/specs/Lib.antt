pub mod Bytes
pub mod Refusal
pub mod Refused
pub mod Head
pub mod Write

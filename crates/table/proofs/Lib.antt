pub mod Answers
pub mod Turns
pub mod Checked
pub mod Bytes
pub mod RoundTrip
pub mod OneResult
pub mod Worked
pub mod Shared

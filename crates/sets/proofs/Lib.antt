pub mod Turns
pub mod Accepted
pub mod RoundTrip
pub mod Numbers
pub mod OneResult
pub mod Reading

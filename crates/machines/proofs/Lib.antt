pub mod Walk
pub mod Rounds
pub mod FirstPatterns
pub mod Standing
pub mod Meeting
pub mod Unique
pub mod Fewest
pub mod Worked

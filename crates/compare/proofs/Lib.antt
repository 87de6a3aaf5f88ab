pub mod Outcomes
pub mod Back
pub mod Parting
pub mod FirstFound
pub mod Packing
pub mod OneResult

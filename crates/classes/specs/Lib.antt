pub mod Area
pub mod Classed
pub mod Signature
pub mod Chain
pub mod Stage
pub mod Stores

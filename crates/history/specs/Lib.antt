pub mod History
pub mod MayMiss
pub mod Machine
pub mod Reaches
pub mod Length
